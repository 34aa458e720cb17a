use Rattle.chord_base.proofs.AskLists.{entries_are_asks, call_is_last_ask}
use Rattle.chord_base.proofs.laws.asks.Goals as goal

pub returns : goal.returns
returns c = record { ready = entries_are_asks; waits = call_is_last_ask }
