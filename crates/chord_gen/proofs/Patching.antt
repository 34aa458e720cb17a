-- Jumps that are written once it is known where they lead.
use Rattle.std.proofs.Common.{◌≡◌, ℕ, ◌+◌, List, [], ◌∷◌, ◌++◌, length, sym, ap, ◌∙◌, arith, append_assoc, length-append, slice_set}
use Rattle.std.proofs.Math.Seq.{set-append_seam}
use Rattle.chord_code.specs.declared.instruction.Instruction.{Instruction}
use Rattle.chord_code.specs.declared.instruction.Instruction.TheVariants as i
use Rattle.chord_gen.specs.Emitted.{then_code, ways_code, way_code, loop_code}

-- a part, and another that was emitted behind it
pub then_emitted : (base first : List Instruction) (second : ℕ → List Instruction) (c1 c2 : List Instruction) → c1 ≡ base ++ first → c2 ≡ c1 ++ second (length c1) → c2 ≡ base ++ then_code (length base) first second
then_emitted base first second c1 c2 e1 e2 =
    let n : length c1 ≡ length base + length first = ap length e1 ∙ length-append base first in
    e2 ∙ ap (λ k. c1 ++ second k) n ∙ ap (λ l. l ++ second (length base + length first)) e1 ∙ append_assoc base first (second (length base + length first))

-- two instructions among others are written anew
two_written : (c a b : List Instruction) (x y v w : Instruction) → slice_set (slice_set (c ++ x ∷ (a ++ y ∷ b)) (length c) v) (length (c ++ v ∷ a)) w ≡ c ++ v ∷ (a ++ w ∷ b)
two_written c a b x y v w =
    ap (λ s. slice_set s (length (c ++ v ∷ a)) w) (set-append_seam c x (a ++ y ∷ b) v ∙ sym (append_assoc c (v ∷ a) (y ∷ b)))
    ∙ set-append_seam (c ++ v ∷ a) y b w
    ∙ append_assoc c (v ∷ a) (w ∷ b)

-- two ways of a test, whose `skip` and `jump` are written last
pub ways_patched : (base test : List Instruction) (s u : ℕ → List Instruction) (c1 c2 c3 c4 c5 : List Instruction) (x y : Instruction) (n1 n2 n3 n4 : ℕ) → c1 ≡ base ++ test → n1 ≡ length c1 → c2 ≡ c1 ++ x ∷ [] → c3 ≡ c2 ++ s (length c2) → n2 ≡ length c3 → c4 ≡ c3 ++ y ∷ [] → n3 ≡ length c4 → c5 ≡ c4 ++ u (length c4) → n4 ≡ length c5
    → slice_set (slice_set c5 n1 (i.Skip n3)) n2 (i.Jump n4) ≡ base ++ ways_code (length base) test s u
ways_patched base e s u c1 c2 c3 c4 c5 x y n1 n2 n3 n4 e1 m1 e2 e3 m2 e4 m3 e5 m4 =
    let l1 = ap length e1 ∙ length-append base e in
    let l2 = ap length e2 ∙ length-append c1 (x ∷ []) in
    let l3 = ap length e3 ∙ length-append c2 (s (length c2)) in
    let l4 = ap length e4 ∙ length-append c3 (y ∷ []) in
    let l5 = ap length e5 ∙ length-append c4 (u (length c4)) in
    let k = length base + length e + 1 in
    let o = k + length (s k) + 1 in
    let ek : length c2 ≡ k = omega arith in
    let sk : length (s (length c2)) ≡ length (s k) = ap (λ n. length (s n)) ek in
    let eo : length c4 ≡ o = omega arith in
    let uo : length (u (length c4)) ≡ length (u o) = ap (λ n. length (u n)) eo in
    let en : n4 ≡ o + length (u o) = omega arith in
    let v = i.Skip n3 in
    let w = i.Jump n4 in
    let ac = s (length c2) in
    let bc = u (length c4) in
    let at2 : n2 ≡ length (c1 ++ v ∷ ac) = omega (arith, length-append c1 (v ∷ ac)) in
    let all : c5 ≡ (((c1 ++ x ∷ []) ++ ac) ++ y ∷ []) ++ bc = e5 ∙ ap (λ l. l ++ bc) (e4 ∙ ap (λ l. l ++ y ∷ []) (e3 ∙ ap (λ l. l ++ ac) e2)) in
    let flat : (((c1 ++ x ∷ []) ++ ac) ++ y ∷ []) ++ bc ≡ c1 ++ x ∷ (ac ++ y ∷ bc) = simp append_assoc in
    ap (λ l. slice_set (slice_set l n1 v) n2 w) (all ∙ flat)
    ∙ ap (λ n. slice_set (slice_set (c1 ++ x ∷ (ac ++ y ∷ bc)) n v) n2 w) m1
    ∙ ap (λ n. slice_set (slice_set (c1 ++ x ∷ (ac ++ y ∷ bc)) (length c1) v) n w) at2
    ∙ two_written c1 ac bc x y v w
    ∙ ap (λ l. l ++ v ∷ (ac ++ w ∷ bc)) e1
    ∙ append_assoc base e (v ∷ (ac ++ w ∷ bc))
    ∙ ap (λ n. base ++ (e ++ (i.Skip n3 ∷ (s n ++ (i.Jump n4 ∷ bc))))) ek
    ∙ ap (λ n. base ++ (e ++ (i.Skip n ∷ (s k ++ (i.Jump n4 ∷ bc))))) (m3 ∙ eo)
    ∙ ap (λ n. base ++ (e ++ (i.Skip o ∷ (s k ++ (i.Jump n4 ∷ u n))))) eo
    ∙ ap (λ n. base ++ (e ++ (i.Skip o ∷ (s k ++ (i.Jump n ∷ u o))))) en

-- one way of a test, whose `skip` is written last
pub way_patched : (base test : List Instruction) (s : ℕ → List Instruction) (c1 c2 c3 : List Instruction) (x : Instruction) (n1 n2 : ℕ) → c1 ≡ base ++ test → n1 ≡ length c1 → c2 ≡ c1 ++ x ∷ [] → c3 ≡ c2 ++ s (length c2) → n2 ≡ length c3
    → slice_set c3 n1 (i.Skip n2) ≡ base ++ way_code (length base) test s
way_patched base e s c1 c2 c3 x n1 n2 e1 m1 e2 e3 m2 =
    let l1 = ap length e1 ∙ length-append base e in
    let l2 = ap length e2 ∙ length-append c1 (x ∷ []) in
    let l3 = ap length e3 ∙ length-append c2 (s (length c2)) in
    let k = length base + length e + 1 in
    let ek : length c2 ≡ k = omega arith in
    let sk : length (s (length c2)) ≡ length (s k) = ap (λ n. length (s n)) ek in
    let en : n2 ≡ k + length (s k) = omega arith in
    let v = i.Skip n2 in
    let ac = s (length c2) in
    let all : c3 ≡ (c1 ++ x ∷ []) ++ ac = e3 ∙ ap (λ l. l ++ ac) e2 in
    ap (λ l. slice_set l n1 v) (all ∙ append_assoc c1 (x ∷ []) ac)
    ∙ ap (λ n. slice_set (c1 ++ x ∷ ac) n v) m1
    ∙ set-append_seam c1 x ac v
    ∙ ap (λ l. l ++ v ∷ ac) e1
    ∙ append_assoc base e (v ∷ ac)
    ∙ ap (λ n. base ++ (e ++ (i.Skip n2 ∷ s n))) ek
    ∙ ap (λ n. base ++ (e ++ (i.Skip n ∷ s k))) en

-- a loop, whose first `jump` is written before its test is emitted
pub loop_patched : (base : List Instruction) (test round : ℕ → List Instruction) (c1 c2 c3 c4 : List Instruction) (x : Instruction) (n0 n1 n2 : ℕ) → n0 ≡ length base → c1 ≡ base ++ x ∷ [] → n1 ≡ length c1 → c2 ≡ c1 ++ round (length c1) → n2 ≡ length c2 → c3 ≡ slice_set c2 n0 (i.Jump n2) → c4 ≡ c3 ++ test (length c3)
    → c4 ++ i.Again n1 ∷ [] ≡ base ++ loop_code (length base) test round
loop_patched base e s c1 c2 c3 c4 x n0 n1 n2 m0 e1 m1 e2 m2 e3 e4 =
    let k = length base + 1 in
    let l1 = ap length e1 ∙ length-append base (x ∷ []) in
    let ek : length c1 ≡ k = omega arith in
    let l2 = ap length e2 ∙ length-append c1 (s (length c1)) in
    let sk : length (s (length c1)) ≡ length (s k) = ap (λ n. length (s n)) ek in
    let en : n2 ≡ k + length (s k) = omega arith in
    let b = s (length c1) in
    let all : c2 ≡ base ++ x ∷ b = e2 ∙ ap (λ l. l ++ b) e1 ∙ append_assoc base (x ∷ []) b in
    let set : c3 ≡ base ++ i.Jump n2 ∷ b = e3 ∙ ap (λ l. slice_set l n0 (i.Jump n2)) all ∙ ap (λ n. slice_set (base ++ x ∷ b) n (i.Jump n2)) m0 ∙ set-append_seam base x b (i.Jump n2) in
    let l3 : length c3 ≡ k + length (s k) = omega (arith, ap length set, length-append base (i.Jump n2 ∷ b)) in
    let test = e (length c3) in
    let flat : ((base ++ i.Jump n2 ∷ b) ++ test) ++ i.Again n1 ∷ [] ≡ base ++ (i.Jump n2 ∷ (b ++ (test ++ i.Again n1 ∷ []))) = simp append_assoc in
    ap (λ l. l ++ i.Again n1 ∷ []) (e4 ∙ ap (λ l. l ++ test) set) ∙ flat
    ∙ ap (λ n. base ++ (i.Jump n2 ∷ (s n ++ (test ++ i.Again n1 ∷ [])))) ek
    ∙ ap (λ n. base ++ (i.Jump n ∷ (s k ++ (test ++ i.Again n1 ∷ [])))) en
    ∙ ap (λ n. base ++ (i.Jump (k + length (s k)) ∷ (s k ++ (e n ++ i.Again n1 ∷ [])))) l3
    ∙ ap (λ n. base ++ (i.Jump (k + length (s k)) ∷ (s k ++ (e (k + length (s k)) ++ i.Again n ∷ [])))) (m1 ∙ ek)
