-- What one instruction comes to, and where a body stands once it was answered.
use Rattle.std.specs.Prelude.{◌≡◌, ℕ, List, [], Bool, true, false, Option, Some, None}
use Rattle.chord_base.specs.declared.event.What.{What}
use Rattle.chord_code.specs.Machine.{Machine, Did, Goes, Asking, Bad}
use Rattle.chord_code.specs.Meaning.{Point, At, FailsBy, Lost}
use Rattle.chord_vm.specs.declared.frames.Frames.{Frames}
use Rattle.chord_vm.specs.declared.frames.Frame as declared_frame
use Rattle.chord_vm.specs.Frames.{machine_of, waiting_of, shown_frame}
use Rattle.chord_base.specs.declared.value.Value.{Value}
use Rattle.chord_code.specs.Slots.{first_slots}
use Rattle.chord_plain.specs.declared.effect.Effect.{Effect}
use Rattle.chord_plain.specs.declared.effect.Effect.TheVariants as effect
use Rattle.chord_plain.specs.declared.running.Reached.{Reached}
use Rattle.chord_plain.specs.declared.running.Reached.TheVariants as reached

-- the instruction had this effect, and the frames are those after it; of frames whose body went wrong nothing is said
abbrev pub IsEffect : Did → Effect → Frames → Type 0
IsEffect d effect.GoesOn f = d ≡ Goes (machine_of f)
IsEffect d (effect.Asks what) f = d ≡ Asking what (waiting_of f)
IsEffect d effect.GoesWrong f = d ≡ Bad

-- a body came to this ask, and its frames wait for the answer; it came to none where it went wrong
abbrev pub IsComeTo : Did → Option What → Frames → Type 0
IsComeTo d (Some what) f = d ≡ Asking what (waiting_of f)
IsComeTo d None f = d ≡ Bad

-- a machine that was looked for is that of the frames, if it is there
abbrev pub IsFound : Option Machine → Option Frames → Type 0
IsFound m (Some f) = m ≡ Some (machine_of f)
IsFound m None = m ≡ None

-- the frame of a block that begins with these values, if they fit its slots
abbrev pub IsFrameOf : (block slots room : ℕ) → List Value → Option declared_frame.Frame → Type 0
IsFrameOf b n room xs None = first_slots n xs ≡ None
IsFrameOf b n room xs (Some f) =
    (first_slots n xs ≡ Some f.slots.items) × (shown_frame f ≡ record { block = b; place = 0; room = room; stack = []; slots = f.slots.items })

-- the frames are those of the machine that was looked for, where it is there
abbrev pub IsGoneOn : Option Machine → Bool → Frames → Type 0
IsGoneOn m true f = m ≡ Some (machine_of f)
IsGoneOn m false f = m ≡ None

-- where a body stands, as the meaning of its code tells it
abbrev pub point_of_reached : Reached → Point
point_of_reached (reached.Stands f) = At (machine_of f)
point_of_reached (reached.Fails t) = FailsBy t
point_of_reached reached.Nowhere = Lost
