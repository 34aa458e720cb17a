use Rattle.std.proofs.Common.{◌≡◌, ℕ, List, ◌∷◌, Option, Some, ap, ◌∙◌, subst}
use Rattle.std.specs.Prelude.{slice_get}
use Rattle.chord_base.specs.declared.value.Object.{Object}
use Rattle.chord_base.specs.declared.value.Value.{Value}
use Rattle.chord_base.specs.declared.event.What.{What}
use Rattle.chord_base.specs.declared.event.What.TheVariants.{Fired}
use Rattle.chord_base.specs.Meaning.{Program}
use Rattle.chord_base.specs.Bodies.{served_among, or_none, served}
use Rattle.chord_base.specs.Story.{IsOwn}
use Rattle.chord_code.specs.Meaning.{code_program}
use Rattle.chord_lists.specs.CodeStands.{StandsAfter}
use Rattle.chord_lists.proofs.CodeReplay.{fired_again}
use Rattle.std.proofs.lemmas.Option.{slice_get_within}
use Rattle.chord_lists.proofs.code_play.CodePlay.replay.Goals as goal

pub returns-in_ok-begin-in-Fired-clause-replayed : goal.returns-in_ok-begin-in-Fired-clause-replayed
returns-in_ok-begin-in-Fired-clause-replayed c =
    λ h played s f within.
    let code = c.args.self.now.code.now in
    let limits = c.args.self.now.limits.now in
    let x = fired_again (code_program code limits) h c.args.entry.now c.in-Fired.chord c.in-Fired.object c.in-Fired.members c.in-Fired.field-3 c.in-Fired.is f in
    subst (λ z. StandsAfter code limits c.begin.new.bodies (z ∷ h)) x.1 ((rw c.copied-members.ensures at c.in_ok-begin-in-Fired.ensures.began) h c.in-Fired.field-3 played s x.0)

pub methods-methods-requires : goal.methods-methods-requires
methods-methods-requires c =
    let m = c.requires.may in
    let p = code_program c.args.self.now.code.now c.args.self.now.limits.now in
    let x = fired_again p m.0 c.args.entry.now c.in-Fired.chord c.in-Fired.object c.in-Fired.members c.in-Fired.field-3 c.in-Fired.is m.3 in
    slice_get_within (p.chords c.in-Fired.object.class) c.in-Fired.chord x.0.0 x.0.1

pub returns-in_ok-begin-in-Fired-clause-ready : goal.returns-in_ok-begin-in-Fired-clause-ready
returns-in_ok-begin-in-Fired-clause-ready c = λ own. absurd (subst IsOwn c.in-Fired.is own)

pub returns-in_ok-begin-in-Fired-clause-homed : goal.returns-in_ok-begin-in-Fired-clause-homed
returns-in_ok-begin-in-Fired-clause-homed c = λ own. absurd (subst IsOwn c.in-Fired.is own)

pub returns-in_ok-begin-in-Fired-clause-over : goal.returns-in_ok-begin-in-Fired-clause-over
returns-in_ok-begin-in-Fired-clause-over c = λ own. absurd (subst IsOwn c.in-Fired.is own)

pub returns-in_ok-begin-in-Fired-clause-turned : goal.returns-in_ok-begin-in-Fired-clause-turned
returns-in_ok-begin-in-Fired-clause-turned c = λ own. absurd (subst IsOwn c.in-Fired.is own)

pub returns-in_ok-begin-in-Fired-clause-tasks : goal.returns-in_ok-begin-in-Fired-clause-tasks
returns-in_ok-begin-in-Fired-clause-tasks c = λ own. absurd (subst IsOwn c.in-Fired.is own)

pub returns-in_ok-begin-in-Fired-clause-topped : goal.returns-in_ok-begin-in-Fired-clause-topped
returns-in_ok-begin-in-Fired-clause-topped c = λ first. c.in_ok-begin-in-Fired.ensures.ready

pub returns-in_ok-begin-in-Fired-clause-left : goal.returns-in_ok-begin-in-Fired-clause-left
returns-in_ok-begin-in-Fired-clause-left c = λ first. c.in_ok-begin-in-Fired.ensures.over

pub returns-in_ok-begin-in-Fired-clause-others : goal.returns-in_ok-begin-in-Fired-clause-others
returns-in_ok-begin-in-Fired-clause-others c = λ first. c.in_ok-begin-in-Fired.ensures.others

-- a firing serves the call that its members give at the methods of its chord
served_at : (p : Program) (w : What) (k : ℕ) (o : Object) (ms js : List ℕ) (vs : List Value) → w ≡ Fired k o ms vs → slice_get (p.chords o.class) k ≡ Some js → served p w ≡ served_among (p.is_sync o.class) js ms
served_at p w k o ms js vs is there = ap (served p) is ∙ ap (λ (z : Option (List ℕ)). served_among (p.is_sync o.class) (or_none z) ms) there

pub returns-in_ok-begin-in-Fired-clause-kept : goal.returns-in_ok-begin-in-Fired-clause-kept
returns-in_ok-begin-in-Fired-clause-kept c = λ first some.
    let p = code_program c.args.self.now.code.now c.args.self.now.limits.now in
    let is = served_at p c.args.entry.now.what c.in-Fired.chord c.in-Fired.object c.in-Fired.members c.methods-methods.result.now c.in-Fired.field-3 c.in-Fired.is c.methods-methods.ensures in
    (rw c.copied-members.ensures at c.in_ok-begin-in-Fired.ensures.kept) (λ none. some (is ∙ none))
