-- The frames in stock, and those of bodies that have ended, once an ask became an entry.
use Rattle.std.proofs.Common.{◌≡◌, ℕ, true, false, Option, None, Some, refl, sym, ap, ◌∙◌, subst, Box, Global, Vec, vec_len, vec_capacity}
use Rattle.chord_base.specs.declared.event.End.{End}
use Rattle.chord_base.specs.declared.event.What.{What}
use Rattle.chord_base.specs.Printed.{is_end}
use Rattle.chord_base.specs.Room.{HasGrown}
use Rattle.chord_code.specs.declared.parts.Parts.{Parts}
use Rattle.chord_vm.specs.Frames.{what_of_ask}
use Rattle.chord_vm.specs.declared.ask.Ask.{Ask}
use Rattle.chord_vm.specs.declared.ask.Ask.TheVariants as ask
use Rattle.chord_task.specs.declared.body.Body.{Body}
use Rattle.chord_task.specs.declared.body.Caller.{Caller}
use Rattle.chord_task.specs.declared.task.Task.{Task}
use Rattle.chord_base.specs.declared.event.Limits.{Limits}
use Rattle.chord_vm.specs.declared.frames.Frames.{Frames}
use Rattle.chord_task.specs.Standing.{body_number, IsRoomierTop, IsStocked, LosesNoFrames, HasMadeRoom, LosesNothing, KeepsList, KeepsStock, KeepsFrames, SettlesFrames, WasStocked}
use Rattle.chord_task.proofs.Turning.{with_body, with_frames}

-- an entry that is no end leaves the frames as they were
pub kept_on : (w : What) (before after : Task) → is_end w ≡ false → after.values ≡ before.values → after.spare ≡ before.spare → after.ended ≡ before.ended → KeepsFrames w before after
kept_on w before after goes_on values spare ended =
    record {
      values = values;
      spare = spare;
      ends = λ at_end b top. let z : true ≡ false = sym at_end ∙ goes_on in cc;
      goes = λ _. ended;
    }

-- an end keeps the frames of its body
pub keeps_ended : (w : What) (before after : Task) → is_end w ≡ true → after.values ≡ before.values → after.spare ≡ before.spare → ((b : Body) → before.top ≡ Some b → after.ended ≡ Some b.frames) → KeepsFrames w before after
keeps_ended w before after at_end values spare ended =
    record {
      values = values;
      spare = spare;
      ends = λ _ b top. ended b top;
      goes = λ goes_on. let z : true ≡ false = sym at_end ∙ goes_on in cc;
    }

-- whether an ask ends its body, by the ask that is there
end_of : (o : Option Ask) (a b : Ask) → o ≡ Some b → o ≡ Some a → is_end (what_of_ask a) ≡ is_end (what_of_ask b)
end_of o a b put e =
    let z : Some a ≡ Some b = sym e ∙ put in
    let same : a ≡ b = cc in
    ap (λ (x : Ask). is_end (what_of_ask x)) same

-- once room was made, the list of callers has grown as it may, also where it was only moved on
grown_on : (code : Parts) (t s t' : Task) → HasMadeRoom code t s → vec_capacity t'.below ≡ vec_capacity s.below → HasGrown (vec_len t.below) (vec_capacity t.below) (vec_capacity t'.below)
grown_on code t s t' m callers = subst (λ (z : ℕ). HasGrown (vec_len t.below) (vec_capacity t.below) z) (sym callers) m.callers

-- an ask that ends no body was settled
pub settles_on : (code : Parts) (t s t' : Task) (o : Option Ask) (a b : Ask) → o ≡ Some b → is_end (what_of_ask b) ≡ false → o ≡ Some a → HasMadeRoom code t s → vec_capacity t'.below ≡ vec_capacity s.below → t'.values ≡ s.values → t'.spare ≡ s.spare → t'.ended ≡ s.ended → SettlesFrames code t (what_of_ask a) t'
settles_on code t s t' o a b put goes_on e m callers values spare ended =
    record {
      between = s;
      roomier = m.top;
      stocked = m.stocked;
      list = m.list;
      kept = kept_on (what_of_ask a) s t' (end_of o a b put e ∙ goes_on) values spare ended;
      frames = m.frames;
      callers = grown_on code t s t' m callers;
    }

-- an end was settled
pub settles_end : (code : Parts) (t s t' : Task) (o : Option Ask) (a : Ask) (x : End) → o ≡ Some (ask.End x) → o ≡ Some a → HasMadeRoom code t s → vec_capacity t'.below ≡ vec_capacity s.below → t'.values ≡ s.values → t'.spare ≡ s.spare → ((b : Body) → s.top ≡ Some b → t'.ended ≡ Some b.frames) → SettlesFrames code t (what_of_ask a) t'
settles_end code t s t' o a x put e m callers values spare ended =
    record {
      between = s;
      roomier = m.top;
      stocked = m.stocked;
      list = m.list;
      kept = keeps_ended (what_of_ask a) s t' (end_of o a (ask.End x) put e) values spare ended;
      frames = m.frames;
      callers = grown_on code t s t' m callers;
    }

-- more room leaves the number of the body on top as it was
top_stays : (o o' : Option Body) → IsRoomierTop o o' → body_number o' ≡ body_number o
top_stays None None r = refl
top_stays (Some b) (Some b') r = ap Some r.0
top_stays None (Some b') r = absurd r
top_stays (Some b) None r = absurd r

-- the ask of the body on top was settled, whose frames ran on
pub settled_stock : (code : Parts) (t t' : Task) (b : Body) (f : Box Frames Global) (w : What) → t.top ≡ Some b → SettlesFrames code (with_body t (with_frames b f)) w t' → WasStocked code t w t'
settled_stock code t t' b f w is x =
    record {
      between = x.between;
      top = top_stays (Some (with_frames b f)) x.between.top x.roomier ∙ sym (ap body_number is);
      stocked = x.stocked;
      list = x.list;
      kept = x.kept;
      frames = x.frames;
      callers = x.callers;
    }

-- frames and a list were seen to in a task whose frames and list were as they are, before its ask became an entry
pub kept_stock : (code : Parts) (t r s t' : Task) (w : What) → r.limits ≡ t.limits → KeepsStock t r → body_number s.top ≡ body_number t.top → IsStocked code r.limits r.spare r.ended s.spare s.ended → LosesNothing code r s → HasGrown (vec_len r.below) (vec_capacity r.below) (vec_capacity s.below) → KeepsFrames w s t' → vec_capacity t'.below ≡ vec_capacity s.below → WasStocked code t w t'
kept_stock code t r s t' w limited same top x lost grown kept callers =
    let under : IsStocked code t.limits r.spare r.ended s.spare s.ended = subst (λ (l : Limits). IsStocked code l r.spare r.ended s.spare s.ended) limited x in
    let from : IsStocked code t.limits t.spare r.ended s.spare s.ended = subst (λ (z : Option (Box Frames Global)). IsStocked code t.limits z r.ended s.spare s.ended) same.0 under in
    record {
      between = s;
      top = top;
      stocked = subst (λ (z : Option (Box Frames Global)). IsStocked code t.limits t.spare z s.spare s.ended) same.1 from;
      list = λ some. lost.list (λ none. some (sym same.2 ∙ none)) ∙ same.2;
      kept = kept;
      frames = subst (λ (z : Option (Box Frames Global)). LosesNoFrames t.spare z s.spare s.ended) same.1 (subst (λ (z : Option (Box Frames Global)). LosesNoFrames z r.ended s.spare s.ended) same.0 lost.frames);
      callers =
          subst (λ (v : Vec Caller Global). HasGrown (vec_len v) (vec_capacity v) (vec_capacity t'.below)) same.3
          (subst (λ (z : ℕ). HasGrown (vec_len r.below) (vec_capacity r.below) z) (sym callers) grown);
    }
