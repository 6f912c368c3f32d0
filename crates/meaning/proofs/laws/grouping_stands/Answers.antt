use Rattle.meaning.proofs.Runs.{grouping_is_free}
use Rattle.meaning.proofs.laws.grouping_stands.Goals as goal

pub returns : goal.returns
returns g c =
    let lawful = g.met.S.Operators in
    grouping_is_free _ _ (record {
      plus = (g.met.S.Plus.Operator.lawful, lawful.plus_is);
      times = (g.met.S.Times.Operator.lawful, lawful.times_is);
      max = (g.met.S.Max.Operator.lawful, lawful.max_is);
      min = (g.met.S.Min.Operator.lawful, lawful.min_is);
      both = (g.met.S.And.Operator.lawful, lawful.and_is);
      either = (g.met.S.Or.Operator.lawful, lawful.or_is);
    })
