-- The order of a whole entry; the public contracts cite the rules' definitions alone.
pub mod Orders
