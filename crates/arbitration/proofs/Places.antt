-- The record's streams and marks in the rules' terms: a place is read and stored alike in a list and in what it means.
-- Assumes nothing.
use Prim.Native.Nat.{ℕ, ◌≤◌, max}
use mathlib.Core.Path.{◌≡◌, sym, ap, ◌∙◌}
use mathlib.Core.List.{map}
use lib.ListN.{length, get_or, set, length-map, get_or-map}
use lib.Seq.{set_out}
use Rattle.std.proofs.lemmas.List.{map-set}
use Rattle.rules.specs.Streams as rules
use Rattle.election.specs.Meaning.{id_of, head_of, stream_of}
use Rattle.election.specs.declared.ElectionId.{ElectionId}
use Rattle.election.specs.declared.Head.{Head}
use Rattle.election.specs.declared.Stream.{Stream}
use Rattle.arbitration.specs.Meaning.{streams_of, raised}
use Rattle.arbitration.specs.declared.Streams.{Streams}

module _ (e : Streams) where
  pub sized : length e.streams ≡ 32 → length (streams_of e).streams ≡ 32
  unfolding streams_of
  sized n = length-map e.streams stream_of ∙ n

  pub sized-marks : length e.marks ≡ 8 → length (streams_of e).marks ≡ 8
  unfolding streams_of
  sized-marks n = length-map e.marks id_of ∙ n

  pub stream_put : (k : ℕ) (x : rules.Stream) (s : Stream) → stream_of s ≡ x
      → streams_of (record { streams = set e.streams k s; marks = e.marks }) ≡ rules.become (streams_of e) k x
  unfolding streams_of
  stream_put k x s q = λ i. record {
    streams = (map-set stream_of e.streams k s ∙ ap (set (map stream_of e.streams) k) q) i;
    marks = map id_of e.marks;
  }

-- what a read past the last gives
abbrev unset : ElectionId
unset = record { number = record { high = 0; low = 0 } }

module _ (e : Streams) (r i : ℕ) where
  pub mark_raised : (v : ElectionId) → id_of v ≡ max (id_of (get_or e.marks r unset)) i
      → streams_of (record { streams = e.streams; marks = set e.marks r v }) ≡ raised (streams_of e) r i
  unfolding streams_of
  mark_raised v q = λ j. record {
    streams = map stream_of e.streams;
    marks =
        (map-set id_of e.marks r v
        ∙ ap (set (map id_of e.marks) r) (q ∙ ap (λ (m : ℕ). max m i) (sym (get_or-map id_of e.marks r unset)))) j;
  }

  -- a role past the last has no mark to raise
  pub past-raised : length e.marks ≤ r → streams_of e ≡ raised (streams_of e) r i
  unfolding streams_of
  past-raised h = λ j. record {
    streams = map stream_of e.streams;
    marks = sym (set_out (map id_of e.marks) r (max (get_or (map id_of e.marks) r 0) i) (rw length-map h)) j;
  }

-- raised, and then bound
pub bound-raised : (t t' : rules.Streams) (s : ℕ) (h : Head) → t' ≡ raised t h.role (id_of h.id)
    → rules.become t' s (rules.bound h.role (id_of h.id)) ≡ rules.binds t s (head_of h)
unfolding rules.binds
bound-raised t t' s h q = rw q
