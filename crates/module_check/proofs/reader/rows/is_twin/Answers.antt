use Rattle.std.proofs.Common.{◌∙◌, refl, rules}
use Rattle.std.proofs.lemmas.Iterator.{YieldsList-from_slice}
use Rattle.std.proofs.lemmas.Iterator.Search.{any_from_yields_List}
use Rattle.values.specs.Tables.{rows_of}
use Rattle.module_check.proofs.Tests.{pointwise_same, any_twin}
use Rattle.module_check.proofs.reader.rows.is_twin.Goals as goal

pub returns-in-Array : goal.returns-in-Array
returns-in-Array c =
    let rows = rows_of c.args.types.now in
    any_from_yields_List _ _ _ _ c.any.ensures.ran (YieldsList-from_slice rows cc) (λ x b q k. search rules)
    ∙ any_twin c.args.row _ (λ q. refl) rows

pub returns-in-Record : goal.returns-in-Record
returns-in-Record c =
    let rows = rows_of c.args.types.now in
    any_from_yields_List _ _ _ _ c.any-in-Record.ensures.ran (YieldsList-from_slice rows cc) (λ x b q k. search (rules, pointwise_same))
    ∙ any_twin c.args.row _ (λ q. refl) rows

pub returns-in-Union : goal.returns-in-Union
returns-in-Union c =
    let rows = rows_of c.args.types.now in
    any_from_yields_List _ _ _ _ c.any-in-Union.ensures.ran (YieldsList-from_slice rows cc) (λ x b q k. search (rules, pointwise_same))
    ∙ any_twin c.args.row _ (λ q. refl) rows
