use Rattle.meaning.proofs.Figures.{figures}
use Rattle.meaning.proofs.laws.figures_stand.Goals as goal

pub returns : goal.returns
returns c = figures
