-- What is true of every valid code: jumps go forward, instructions are within their bounds, and chords are as the join machine takes them.
use Rattle.std.proofs.Common.{◌≡◌, ℕ, zero, suc, ◌<◌, ◌≤◌, List, [], ◌∷◌, length, Bool, true, false, ◌==◌, Option, Some, None, inl, inr, refl, sym, ap, ◌∙◌, subst, arith}
use Rattle.std.specs.Prelude.{slice_get, map}
use Rattle.std.proofs.lemmas.Bool.{eqb-true}
use Rattle.chord_base.proofs.Waits.{either}
use Rattle.chord_base.specs.declared.event.Limits.{Limits}
use Rattle.chord_base.specs.Meaning.{OneSync, HasOneSync, HaveMethods}
use Rattle.chord_base.specs.Messages.{AreDifferent, has}
use Rattle.chord_code.specs.declared.instruction.Instruction.{Instruction}
use Rattle.chord_code.specs.declared.instruction.Instruction.TheVariants as instr
use Rattle.chord_code.specs.declared.parts.Block.{Block}
use Rattle.chord_code.specs.declared.parts.ChordLine.{ChordLine}
use Rattle.chord_code.specs.declared.parts.ClassLine.{ClassLine}
use Rattle.chord_code.specs.declared.parts.Parts.{Parts}
use Rattle.chord_code.specs.Valid.{IsRight, IsChordLine, IsValid, AllLess, line_is_sync, class_is_sync}
use Rattle.chord_code.specs.Machine.{instr_in, fetch, builder_in, builder_by, builder_of_line, IsForward}
use Rattle.chord_code.specs.Meaning.{chords_of_line, methods_of_line, chord_lines, methods_of, method_is_sync, code_program}
use Rattle.chord_code.specs.Within.{IsInstructionWithin, IsCodeWithin}
use Rattle.chord_code.specs.Laws.{ChordsAreRight}

-- what was fetched is right
pub right_at : (code : Parts) → IsValid code → (b p : ℕ) (x : Instruction) → fetch code b p ≡ Some x → (block : Block) × (slice_get code.blocks b ≡ Some block) × IsRight code b block.slots (length block.instructions) p x
right_at code valid b p x e = by_block (slice_get code.blocks b) refl e
  where
    by_block : (o : Option Block) → slice_get code.blocks b ≡ o → instr_in o p ≡ Some x → (block : Block) × (slice_get code.blocks b ≡ Some block) × IsRight code b block.slots (length block.instructions) p x
    by_block None is e = (let z : ◌≡◌ {A = Option Instruction} None (Some x) = e in cc)
    by_block (Some block) is e = (block, is, (valid.blocks b block is).right p x e)

-- an instruction that is right is within its bounds
right_within : (code : Parts) (b s n p : ℕ) → length code.classes ≤ 1024 → (x : Instruction) → IsRight code b s n p x → IsInstructionWithin x
right_within code b s n p few (instr.New c k) r = omega (arith, few, r.0)
right_within code b s n p few (instr.Send j k) r = r
right_within code b s n p few (instr.Call j k) r = r
right_within code b s n p few _ r = tt

-- each instruction of a valid code is within its bounds
pub valid_within : (code : Parts) → IsValid code → IsCodeWithin code
valid_within code valid b p x e =
    let r = right_at code valid b p x e in right_within code b r.0.slots (length r.0.instructions) p valid.few x r.2

-- what is there is the same where its options are
same_some : {A : Type 0} (x y : A) → Some x ≡ Some y → x ≡ y
same_some x y e = cc

-- the block of a class's builder
builder_is : (code : Parts) (line : ClassLine) (k i n : ℕ) (o : Option ℕ) → o ≡ Some k → builder_by code o ≡ Some (Some (i, n)) → i ≡ k
builder_is code line k i n None has_one e = (let z : ◌≡◌ {A = Option ℕ} None (Some k) = has_one in cc)
builder_is code line k i n (Some j) has_one e = by_block (slice_get code.blocks j) e ∙ same_some j k has_one
  where
    by_block : (o : Option Block) → builder_in o j ≡ Some (Some (i, n)) → i ≡ j
    by_block None e = (let z : ◌≡◌ {A = Option (Option (ℕ × ℕ))} None (Some (Some (i, n))) = e in cc)
    by_block (Some block) e = sym (ap (λ (z : ℕ × ℕ). z.0) (same_some (j, block.slots) (i, n) (same_some (Some (j, block.slots)) (Some (i, n)) e)))

-- jumps of a valid code go forward, but for those of loops
pub valid_forward : (code : Parts) → IsValid code → IsForward code
valid_forward code valid =
    record {
      jumps = λ b p a e. (right_at code valid b p (instr.Jump a) e).2.0;
      skips = λ b p a e. (right_at code valid b p (instr.Skip a) e).2.0;
      inits =
          λ b p c k n e is.
          (let r = (right_at code valid b p (instr.Init c) e).2 in
          let same : k ≡ r.builder = builder_is code r.line r.builder k n r.line.builder r.has (ap (builder_of_line code) (sym r.found) ∙ is) in
          subst (λ z. z < b) (sym same) r.before);
    }

-- a chord of the meaning is a line of the code
line_at : (xs : List ChordLine) (k : ℕ) (js : List ℕ) → slice_get (map methods_of xs) k ≡ Some js → (line : ChordLine) × (slice_get xs k ≡ Some line) × (line.methods ≡ js)
line_at [] k js e = (let z : ◌≡◌ {A = Option (List ℕ)} None (Some js) = e in cc)
line_at (x ∷ xs) zero js e = (x, refl, same_some x.methods js e)
line_at (x ∷ xs) (suc k) js e = line_at xs k js e

-- a line of a valid code, with its class
pub line_valid : (code : Parts) → IsValid code → (c k : ℕ) (js : List ℕ) → slice_get (map methods_of (chord_lines code c)) k ≡ Some js → (class : ClassLine) × (line : ChordLine) × (slice_get code.classes c ≡ Some class) × IsChordLine code class line × (line.methods ≡ js)
line_valid code valid c k js e = by_class (slice_get code.classes c) refl e
  where
    by_class : (o : Option ClassLine) → slice_get code.classes c ≡ o → slice_get (map methods_of (chords_of_line o)) k ≡ Some js → (class : ClassLine) × (line : ChordLine) × (slice_get code.classes c ≡ Some class) × IsChordLine code class line × (line.methods ≡ js)
    by_class None is e = (let z : ◌≡◌ {A = Option (List ℕ)} None (Some js) = e in cc)
    by_class (Some class) is e =
        let l = line_at class.chords k js e in
        (class, l.0, is, (valid.classes c class is).chords k l.0 l.1, l.2)

-- each number stands among these and is below n
less_has : (n : ℕ) (js : List ℕ) → AllLess n js → (j : ℕ) → has j js ≡ true → j < n
less_has n [] a j h = (let z : false ≡ true = h in cc)
less_has n (k ∷ js) a j h = elim (either (j == k)) [ inl y ↦ subst (λ z. z < n) (sym (eqb-true j k y)) a.0 | inr o ↦ less_has n js a.1 j (rw o at h) ]

-- a chord of a valid code has a method
pub valid_methods : (code : Parts) (limits : Limits) → IsValid code → HaveMethods (code_program code limits)
valid_methods code limits valid c k js e = let l = line_valid code valid c k js e in subst (λ (z : List ℕ). 0 < length z) l.4 l.3.some

-- the methods of a chord of a valid code are different
pub valid_different : (code : Parts) → IsValid code → (c k : ℕ) (js : List ℕ) → slice_get (map methods_of (chord_lines code c)) k ≡ Some js → AreDifferent js
valid_different code valid c k js e = let l = line_valid code valid c k js e in subst AreDifferent l.4 l.3.different

-- the methods of a chord of a valid code are below 16
pub valid_few : (code : Parts) → IsValid code → (c k j : ℕ) (js : List ℕ) → slice_get (map methods_of (chord_lines code c)) k ≡ Some js → has j js ≡ true → j < 16
valid_few code valid c k j js e h =
    let l = line_valid code valid c k js e in
    let n = less_has (length l.0.methods) l.1.methods l.3.there j (subst (λ (z : List ℕ). has j z ≡ true) (sym l.4) h) in
    let few = (valid.classes c l.0 l.2).few_methods in
    omega (arith, n, few)

-- whether callers wait is told by the class
sync_same : (code : Parts) (class : ClassLine) (c : ℕ) → slice_get code.classes c ≡ Some class → class_is_sync class ≡ method_is_sync code c
sync_same code class c e = (let kinds : Option ClassLine → ℕ → Bool = λ o j. line_is_sync (slice_get (methods_of_line o) j) in sym (ap kinds e))

-- a chord of a valid code has at most one method whose callers wait
pub valid_one_sync : (code : Parts) (limits : Limits) → IsValid code → HasOneSync (code_program code limits)
valid_one_sync code limits valid c k js e =
    let l = line_valid code valid c k js e in
    subst (λ (z : List ℕ). OneSync (method_is_sync code c) z) l.4 (subst (λ (f : ℕ → Bool). OneSync f l.1.methods) (sync_same code l.0 c l.2) l.3.one_sync)

-- a chord of a valid code has at most eight methods
pub valid_headers : (code : Parts) → IsValid code → (c k : ℕ) (js : List ℕ) → slice_get (map methods_of (chord_lines code c)) k ≡ Some js → length js ≤ 8
valid_headers code valid c k js e = let l = line_valid code valid c k js e in subst (λ (z : List ℕ). length z ≤ 8) l.4 l.3.few

-- chords have as many lists of methods as there are lines
map_length : (xs : List ChordLine) → length (map methods_of xs) ≡ length xs
map_length [] = refl
map_length (x ∷ xs) = ap suc (map_length xs)

-- a class of a valid code has at most 256 chords
pub valid_chords : (code : Parts) → IsValid code → (c : ℕ) → length (map methods_of (chord_lines code c)) ≤ 256
valid_chords code valid c = by_class (slice_get code.classes c) refl
  where
    by_class : (o : Option ClassLine) → slice_get code.classes c ≡ o → length (map methods_of (chords_of_line o)) ≤ 256
    by_class None e = omega arith
    by_class (Some class) e = (let same = map_length class.chords in let few = (valid.classes c class e).few_chords in omega (arith, same, few))

-- the chords of a valid code are as the join machine takes them
pub valid_chords_right : (code : Parts) (limits : Limits) → IsValid code → ChordsAreRight (code_program code limits)
valid_chords_right code limits valid =
    record {
      one_sync = valid_one_sync code limits valid;
      some = valid_methods code limits valid;
      different = valid_different code valid;
      few = valid_few code valid;
      few_headers = valid_headers code valid;
      few_chords = valid_chords code valid;
    }
