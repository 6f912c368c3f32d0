use Rattle.stack.proofs.Fronts.{heads_values}
use Rattle.stack.proofs.heads.lay_head.Goals as goal

pub returns-in-Array-clause-heads : goal.returns-in-Array-clause-heads
returns-in-Array-clause-heads c = heads_values c.args.head

pub returns-in-Record-clause-heads : goal.returns-in-Record-clause-heads
returns-in-Record-clause-heads c = heads_values c.args.head

pub returns-in-Union-clause-heads : goal.returns-in-Union-clause-heads
returns-in-Union-clause-heads c = heads_values c.args.head
