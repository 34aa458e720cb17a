-- The call that a body waits for.
use Rattle.std.proofs.Common.{◌≡◌, ℕ, ◌<◌, Bool, true, false, ◌==◌, List, [], ◌∷◌, length, Option, Some, None, refl, sym, ap, ◌∙◌, subst, arith, ◌⊎◌, inl, inr}
use Rattle.std.proofs.lemmas.Bool.{eq-eqb, eqb-true, ne_eqb}
use Rattle.chord_base.specs.declared.event.End.{End}
use Rattle.chord_base.specs.declared.event.What.{What}
use Rattle.chord_base.specs.declared.event.What.TheVariants.{Begun, Made, Sent, Called, Printed, Fired, Ended}
use Rattle.chord_base.specs.declared.event.Entry.{Entry}
use Rattle.chord_base.specs.Meaning.{Program, Start, Chord}
use Rattle.chord_base.specs.Messages.{maker}
use Rattle.chord_base.specs.Bodies.{Doing, Absent, Unplaced, Ready, Waits, Over, replied, waiting, served, placed, begun, begun_by, own, answered, heard, doing, serves}
use Rattle.chord_base.specs.Machine.{IsPast}

-- a Bool is true or false
pub either : (b : Bool) → (b ≡ true) ⊎ (b ≡ false)
either true = inl refl
either false = inr refl

-- the call that the body waits for, if any, is such a one
abbrev pub WaitsOn : (ℕ → Type 0) → Doing → Type 0
WaitsOn P (Waits s k rs q l) = P q
WaitsOn P (Ready s k rs) = Unit {0}
WaitsOn P Absent = Unit {0}
WaitsOn P Unplaced = Unit {0}
WaitsOn P (Over x) = Unit {0}

-- a body that got an answer waits for nothing
pub replied_waits : (P : ℕ → Type 0) (a : End) (d : Doing) → WaitsOn P (replied a d)
replied_waits P a (Waits s k rs q l) = tt
replied_waits P a (Ready s k rs) = tt
replied_waits P a Absent = tt
replied_waits P a Unplaced = tt
replied_waits P a (Over x) = tt

-- a body that makes a call with a property waits for calls with it alone
pub waiting_waits : (p : Program) (P : ℕ → Type 0) (n : ℕ) (d : Doing) → P n → WaitsOn P d → WaitsOn P (waiting p n d)
waiting_waits p P n (Waits s k rs q l) e w = w
waiting_waits p P n (Ready s k rs) e w = e
waiting_waits p P n Absent e w = tt
waiting_waits p P n Unplaced e w = tt
waiting_waits p P n (Over x) e w = tt

-- after an end a body waits for no call for which it did not wait before
pub answered_waits : (P : ℕ → Type 0) (x : End) (c : Option ℕ) (d : Doing) → WaitsOn P d → WaitsOn P (answered x c d)
answered_waits P x None d w = w
answered_waits P x (Some c) (Waits s k rs q l) w = elim (either (c == q)) [ inl y ↦ rw y tt | inr o ↦ rw o w ]
answered_waits P x (Some c) (Ready s k rs) w = tt
answered_waits P x (Some c) Absent w = tt
answered_waits P x (Some c) Unplaced w = tt
answered_waits P x (Some c) (Over y) w = tt

-- an entry of another body leaves an absent body absent
pub heard_absent : (w : What) (c : Option ℕ) → heard w c Absent ≡ Absent
heard_absent (Ended x) None = refl
heard_absent (Ended x) (Some c) = refl
heard_absent Begun c = refl
heard_absent (Made k) c = refl
heard_absent (Sent o j vs) c = refl
heard_absent (Called o j vs) c = refl
heard_absent (Printed t) c = refl
heard_absent (Fired k o ms vs) c = refl

-- after an entry of another body a body waits for no call for which it did not wait before
pub heard_waits : (P : ℕ → Type 0) (w : What) (c : Option ℕ) (d : Doing) → WaitsOn P d → WaitsOn P (heard w c d)
heard_waits P (Ended x) c d w = answered_waits P x c d w
heard_waits P Begun c d w = w
heard_waits P (Made k) c d w = w
heard_waits P (Sent o j vs) c d w = w
heard_waits P (Called o j vs) c d w = w
heard_waits P (Printed t) c d w = w
heard_waits P (Fired k o ms vs) c d w = w

-- a body that has just begun, one deeper than its caller, waits for nothing
pub placed_waits : (P : ℕ → Type 0) (s : Start) (q : ℕ) (d : Doing) → WaitsOn P (placed s q d)
placed_waits P s q (Waits s' k rs q' l) = elim (either (q == q')) [ inl y ↦ rw y tt | inr o ↦ rw o tt ]
placed_waits P s q (Ready s' k rs) = tt
placed_waits P s q Absent = tt
placed_waits P s q Unplaced = tt
placed_waits P s q (Over x) = tt

-- a body that has just begun to serve a call waits for nothing
pub begun_by_waits : (P : ℕ → Type 0) (s : Start) (q : ℕ) (o : Option ℕ) (f : ℕ → Doing) → WaitsOn P (begun_by s q o f)
begun_by_waits P s q None f = tt
begun_by_waits P s q (Some b') f = placed_waits P s q (f b')

-- a body that has just begun waits for nothing
pub begun_waits : (P : ℕ → Type 0) (s : Start) (o : Option ℕ) (m : ℕ → Option ℕ) (f : ℕ → Doing) → WaitsOn P (begun s o m f)
begun_waits P s None m f = tt
begun_waits P s (Some q) m f = begun_by_waits P s q (m q) f

-- after an entry of its own a body waits for that entry's number or for what it waited for before
pub own_waits : (p : Program) (P : ℕ → Type 0) (n : ℕ) (w : What) (m : ℕ → Option ℕ) (f : ℕ → Doing) (d : Doing) → P n → WaitsOn P d → WaitsOn P (own p n w m f d)
own_waits p P n Begun m f d e w = tt
own_waits p P n (Fired k o ms vs) m f d e w = begun_waits P (Chord k o vs) (served p (Fired k o ms vs)) m f
own_waits p P n (Made c) m f d e w = replied_waits P _ d
own_waits p P n (Sent o j vs) m f d e w = replied_waits P _ d
own_waits p P n (Printed t) m f d e w = replied_waits P _ d
own_waits p P n (Called o j vs) m f d e w = waiting_waits p P n d e w
own_waits p P n (Ended x) m f d e w = tt

-- the entry of this number is there
abbrev pub Known : ℕ → List Entry → Type 0
Known n h = (b : ℕ) × (maker n h ≡ Some b)

-- every entry's number is its place
pub below_length : (p : Program) (h : List Entry) (n : ℕ) → IsPast p h → Known n h → n < length h
below_length p [] n r k = (let z : ◌≡◌ {A = Option ℕ} None (Some k.0) = k.1 in cc)
below_length p (e ∷ h) n r k =
    elim (either (e.number == n)) [
      | inl y ↦ (let i = r.1.numbered in let j = eqb-true e.number n y in omega (arith, i, j))
      | inr o ↦ (let b = below_length p h n r.0 (k.0, rw o at k.1) in omega (arith, b))
    ]

-- one more entry of another number changes nothing about who made an entry
maker_on : (e : Entry) (h : List Entry) (q b : ℕ) → (e.number == q) ≡ false → maker q h ≡ Some b → maker q (e ∷ h) ≡ Some b
maker_on e h q b o m = rw (o, m)

-- a later entry keeps what is known of earlier numbers
more_waits : (p : Program) (e : Entry) (h : List Entry) (b : ℕ) (d : Doing) → IsPast p h → e.number ≡ length h → WaitsOn (λ q. maker q h ≡ Some b) d → WaitsOn (λ q. maker q (e ∷ h) ≡ Some b) d
more_waits p e h b (Waits s k rs q l) r n w =
    maker_on e h q b (ne_eqb e.number q (λ i. let u = below_length p h q r (b, w) in omega (arith, i, n, u))) w
more_waits p e h b (Ready s k rs) r n w = tt
more_waits p e h b Absent r n w = tt
more_waits p e h b Unplaced r n w = tt
more_waits p e h b (Over x) r n w = tt

-- a body waits for a call of its own
pub waits_for_own : (p : Program) (h : List Entry) (b : ℕ) → IsPast p h → WaitsOn (λ q. maker q h ≡ Some b) (doing p h b)
waits_for_own p [] b r = tt
waits_for_own p (e ∷ h) b r =
    let before = more_waits p e h b (doing p h b) r.0 r.1.numbered (waits_for_own p h b r.0) in
    elim (either (e.body == b)) [
      | inl y ↦
          (let here : maker e.number (e ∷ h) ≡ Some b = rw (eq-eqb e.number e.number refl) (ap Some (eqb-true e.body b y)) in
          rw y (own_waits p (λ q. maker q (e ∷ h) ≡ Some b) e.number e.what _ (doing p h) (doing p h b) here before))
      | inr o ↦ rw o (heard_waits (λ q. maker q (e ∷ h) ≡ Some b) e.what (serves p e.body h) (doing p h b) before)
    ]

-- two bodies never wait for one call
pub one_waits : (p : Program) (h : List Entry) (b b' q : ℕ) (s s' : Start) (k k' l l' : ℕ) (rs rs' : List End) → IsPast p h → doing p h b ≡ Waits s k rs q l → doing p h b' ≡ Waits s' k' rs' q l' → b ≡ b'
one_waits p h b b' q s s' k k' l l' rs rs' r e e' =
    let m = subst (λ (d : Doing). WaitsOn (λ i. maker i h ≡ Some b) d) e (waits_for_own p h b r) in
    let m' = subst (λ (d : Doing). WaitsOn (λ i. maker i h ≡ Some b') d) e' (waits_for_own p h b' r) in
    let z : Some b ≡ Some b' = sym m ∙ m' in cc
