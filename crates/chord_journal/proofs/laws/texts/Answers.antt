use Rattle.std.proofs.Common.{refl}
use Rattle.chord_journal.proofs.JournalTexts.{same_journal, text_not_wrong, wrong_once}
use Rattle.chord_journal.specs.Text.{journal_text}
use Rattle.chord_journal.proofs.laws.texts.Goals as goal

pub returns-clause-one : goal.returns-clause-one
returns-clause-one c = same_journal

pub returns-clause-right : goal.returns-clause-right
returns-clause-right c = λ journal k is typed wrong. text_not_wrong journal (journal_text journal) k is typed refl wrong

pub returns-clause-once : goal.returns-clause-once
returns-clause-once c = wrong_once
