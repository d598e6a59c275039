-- Right because the library's search is the rules'. Assumes nothing.
use Rattle.std.proofs.Common.{rules, tests, ◌∙◌, ap}
use Rattle.std.proofs.lemmas.Iterator.{YieldsList-from_slice}
use Rattle.std.proofs.lemmas.Iterator.Search.{any_from_yields_List}
use Rattle.rules.specs.Bytes.{between, some_of}
use Rattle.rules.specs.Row as rows
use Rattle.rows.specs.declared.Field.{Field}
use Rattle.rows.specs.Meaning.{field_of}
use Rattle.checks.proofs.Walk.{some-map}
use Rattle.checks.proofs.has_priority.Goals as goal

pub returns : goal.returns
returns c =
    let fields = c.fields.result.now in
    any_from_yields_List (λ (f : Field). between 3 5 f.kind) c.any.new.self _ c.any.result c.any.ensures.ran (YieldsList-from_slice fields (cc))
    (λ x b q k. search (rules, tests))
    ∙ some-map (λ (f : rows.Field). between 3 5 f.kind) field_of fields
    ∙ ap (some_of (λ (f : rows.Field). between 3 5 f.kind)) c.fields.ensures.fields
