use Rattle.verdict.proofs.Exact.{exact}
use Rattle.verdict.proofs.exactness.exactness_stands.Goals as goal

pub returns : goal.returns
returns c = exact
