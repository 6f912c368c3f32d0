use Rattle.meaning.proofs.Runs.{room_only_stops, results_fit}
use Rattle.meaning.proofs.laws.room_stands.Goals as goal

pub returns : goal.returns
returns c = record { more = room_only_stops; fits = results_fit }
