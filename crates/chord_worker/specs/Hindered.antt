-- When a message that is minded is minded on: another desk was in the way.
use Rattle.std.specs.Prelude.{◌⊎◌, ℕ, List, Option}
use Rattle.chord_base.specs.Meaning.{Program}
use Rattle.chord_base.specs.declared.value.Object.{Object}
use Rattle.chord_match.specs.Findings.{IsHeldBy, IsMatch}
use Rattle.chord_match.specs.Fires.{IsLost}
use Rattle.chord_rule.specs.declared.view.View.{View}

-- between the views v and w a chord with the message m to this method of the object was found, and then one of its members was lost
pub record HasLostMember (p : Program) (n : ℕ) (v w : View) (m : ℕ) (o : Object) (method : ℕ) : Type 0 where
  pub found : View
  pub chord : ℕ
  pub members : List ℕ
  pub nexts : List (Option ℕ)
  pub is_match : IsMatch p n v found m o method chord members nexts
  pub member : ℕ
  pub lost : IsLost n found w members nexts member

-- between these views a message was in another hand, m itself or one that a chord with it wants, or a chord was found and a member of it lost
abbrev pub IsHindered : Program → ℕ → View → View → ℕ → Object → ℕ → Type 0
IsHindered p n v w m o method = ((i : ℕ) × IsHeldBy p n v w m o method i) ⊎ HasLostMember p n v w m o method
