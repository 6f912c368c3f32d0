use Rattle.std.proofs.Common.{eqb, ◌∙◌, rules}
use borrow.Author.Tests.{tests}
use Rattle.std.proofs.lemmas.Iterator.{YieldsList-from_slice}
use Rattle.std.proofs.lemmas.Iterator.Search.{all_from_yields_List}
use Rattle.values.specs.Rows.{used}
use Rattle.module_check.proofs.Tests.{all_every}
use Rattle.module_check.proofs.lists.all_are.Goals as goal

pub returns : goal.returns
returns c =
    all_from_yields_List (λ t. eqb t c.args.number) _ _ c.all.result c.all.ensures.ran (YieldsList-from_slice (used c.args.a) cc) (λ x b q k. search (rules, tests))
    ∙ all_every c.args.number (used c.args.a)
