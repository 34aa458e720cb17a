-- In a run, what a body's entries after its first say is the list of its asks.
use Rattle.std.proofs.Common.{◌≡◌, ℕ, ◌<◌, ◌≤◌, true, false, ◌==◌, List, [], ◌∷◌, ◌++◌, length, reverse, Option, Some, None, option_map, refl, sym, ap, ◌∙◌, subst, arith, inl, inr, append_assoc}
use Rattle.std.proofs.lemmas.Bool.{eq-eqb, eqb-true, ne_eqb}
use Rattle.std.proofs.lemmas.List.{reverse-append, map-append}
use Rattle.chord_base.proofs.Merge.{IsSeen}
use Rattle.chord_base.specs.declared.event.End.{End}
use Rattle.chord_base.specs.declared.event.What.{What}
use Rattle.chord_base.specs.declared.event.What.TheVariants.{Begun, Made, Sent, Called, Printed, Fired, Ended}
use Rattle.chord_base.specs.declared.event.Entry.{Entry}
use Rattle.chord_base.specs.Meaning.{Program, Start, Chord, Asked}
use Rattle.chord_base.specs.Messages.{maker}
use Rattle.chord_base.specs.Bodies.{Doing, Absent, Unplaced, Ready, Waits, Over, replied, waiting, placed, begun, begun_by, served, own, answered, heard, doing, serves, asked}
use Rattle.chord_base.specs.Asks.{said, asks_on, asks_of, all_some}
use Rattle.chord_base.specs.Machine.{Comes, IsPast}
use Rattle.chord_base.specs.Laws.{EntriesAreAsks, CallIsLastAsk}
use Rattle.chord_base.proofs.Waits.{either, heard_absent}

-- what the next ask of a body that got these answers says, if there is such an ask
abbrev next_what : Program → Start → ℕ → List End → Option What
next_what p s d rs = option_map (λ a. a.what) (p.next s d rs)

-- one more answer, one more ask
asks_more_on : (p : Program) (s : Start) (d : ℕ) (got rs : List End) (x : End) → asks_on p s d got (rs ++ x ∷ []) ≡ asks_on p s d got rs ++ next_what p s d (got ++ (rs ++ x ∷ [])) ∷ []
asks_more_on p s d got [] x = refl
asks_more_on p s d got (r ∷ rs) x =
    ap (λ z. next_what p s d got ∷ z)
    (asks_more_on p s d (got ++ r ∷ []) rs x ∙ ap (λ z. asks_on p s d (got ++ r ∷ []) rs ++ next_what p s d z ∷ []) (append_assoc got (r ∷ []) (rs ++ x ∷ [])))

-- with one more answer the list of a body's asks has one more ask at its end
asks_more : (p : Program) (s : Start) (d : ℕ) (rs : List End) (x : End) → asks_of p s d (rs ++ x ∷ []) ≡ asks_of p s d rs ++ next_what p s d (rs ++ x ∷ []) ∷ []
asks_more p s d rs x = asks_more_on p s d [] rs x

-- what is said once more comes last
said_more : (w : What) (ws : List What) → all_some (reverse (w ∷ ws)) ≡ all_some (reverse ws) ++ Some w ∷ []
said_more w ws = ap all_some (reverse-append (w ∷ []) ws) ∙ map-append (λ (x : What). Some x) (reverse ws) (w ∷ [])

-- what the body said, and its next ask if it may go on, is the list of its asks
abbrev IsSaid : Program → List What → Doing → Type 0
IsSaid p ws (Ready s d rs) = asks_of p s d rs ≡ all_some (reverse ws) ++ next_what p s d rs ∷ []
IsSaid p ws (Waits s d rs q l) = asks_of p s d rs ≡ all_some (reverse ws)
IsSaid p ws Absent = Unit {0}
IsSaid p ws Unplaced = Unit {0}
IsSaid p ws (Over x) = Unit {0}

-- a body that asks has an entry
pub asks_entry : (p : Program) (d : Doing) (a : Asked) → asked p d ≡ Some a → IsSeen d
asks_entry p (Ready s d rs) a e = tt
asks_entry p Unplaced a e = tt
asks_entry p (Waits s d rs q l) a e = tt
asks_entry p (Over x) a e = tt
asks_entry p Absent a e = (let z : ◌≡◌ {A = Option Asked} None (Some a) = e in cc)

-- a body that has an entry after an entry of another body had one before
heard_entry : (w : What) (c : Option ℕ) (d : Doing) → IsSeen (heard w c d) → IsSeen d
heard_entry w c (Ready s d rs) e = tt
heard_entry w c Unplaced e = tt
heard_entry w c (Waits s d rs q l) e = tt
heard_entry w c (Over x) e = tt
heard_entry w c Absent e = subst IsSeen (heard_absent w c) e

-- the body of the next entry has an earlier one, or is new
pub body_below : (p : Program) (h : List Entry) (n b : ℕ) (w : What) → n ≡ length h → Comes p h n b w → ((c : ℕ) → IsSeen (doing p h c) → c < length h) → b ≤ length h
body_below p h n b Begun e c f = omega (arith, c.1)
body_below p h n b (Fired k o ms vs) e c f = omega (arith, c.0, e)
body_below p h n b (Made k) e c f = (let l = f b (asks_entry p (doing p h b) _ c.1) in omega (arith, l))
body_below p h n b (Sent o j vs) e c f = (let l = f b (asks_entry p (doing p h b) _ c.1) in omega (arith, l))
body_below p h n b (Called o j vs) e c f = (let l = f b (asks_entry p (doing p h b) _ c.1) in omega (arith, l))
body_below p h n b (Printed t) e c f = (let l = f b (asks_entry p (doing p h b) _ c.1) in omega (arith, l))
body_below p h n b (Ended x) e c f = (let l = f b (asks_entry p (doing p h b) _ c.1) in omega (arith, l))

-- in a run, bodies with an entry have smaller numbers than the next one
pub entry_within : (p : Program) (h : List Entry) (b : ℕ) → IsPast p h → IsSeen (doing p h b) → b < length h
entry_within p [] b r e = absurd e
entry_within p (x ∷ h) b r e =
    elim (either (x.body == b)) [
      | inl y ↦
          (let l = body_below p h x.number x.body x.what r.1.numbered r.1.comes (λ c d. entry_within p h c r.0 d) in
          let same = eqb-true x.body b y in omega (arith, l, same))
      | inr o ↦ (let l = entry_within p h b r.0 (heard_entry x.what (serves p x.body h) (doing p h b) (rw o at e)) in omega (arith, l))
    ]

-- a body without an entry has said nothing
said_nothing : (p : Program) (h : List Entry) (b : ℕ) → IsPast p h → length h ≤ b → said b h ≡ []
said_nothing p [] b r l = refl
said_nothing p (x ∷ h) b r l =
    let w = body_below p h x.number x.body x.what r.1.numbered r.1.comes (λ c d. entry_within p h c r.0 d) in
    let other : (x.body == b) ≡ false = ne_eqb x.body b (λ e. omega (arith, e, w, l)) in
    rw other (said_nothing p h b r.0 (omega (arith, l)))

-- of a body that has said nothing and begins one deeper than its caller, or lacks its call, nothing said and its next ask are the list of its asks
placed_said : (p : Program) (s : Start) (q : ℕ) (d : Doing) → IsSaid p [] (placed s q d)
placed_said p s q (Waits t k rs c l) = elim (either (q == c)) [ inl y ↦ rw y refl | inr o ↦ rw o tt ]
placed_said p s q Absent = tt
placed_said p s q Unplaced = tt
placed_said p s q (Ready t k rs) = tt
placed_said p s q (Over x) = tt

-- the same of a body that has said nothing and begins to serve a call, whether the call has a maker or not
by_said : (p : Program) (s : Start) (q : ℕ) (o : Option ℕ) (f : ℕ → Doing) → IsSaid p [] (begun_by s q o f)
by_said p s q None f = tt
by_said p s q (Some b) f = placed_said p s q (f b)

-- a body that begins
begun_said : (p : Program) (s : Start) (c : Option ℕ) (m : ℕ → Option ℕ) (f : ℕ → Doing) → IsSaid p [] (begun s c m f)
begun_said p s None m f = refl
begun_said p s (Some q) m f = by_said p s q (m q) f

-- an answer comes
replied_said : (p : Program) (x : End) (w : What) (ws : List What) (d : Doing) → (l : ℕ) → asked p d ≡ Some (record { what = w; depth = l }) → IsSaid p ws d → IsSaid p (w ∷ ws) (replied x d)
replied_said p x w ws (Ready s d rs) l a i =
    asks_more p s d rs x ∙ ap (λ z. z ++ next_what p s d (rs ++ x ∷ []) ∷ [])
    (i ∙ ap (λ z. all_some (reverse ws) ++ z ∷ []) (ap (option_map (λ (y : Asked). y.what)) a) ∙ sym (said_more w ws))
replied_said p x w ws (Waits s d rs q k) l a i = cc
replied_said p x w ws Absent l a i = tt
replied_said p x w ws Unplaced l a i = tt
replied_said p x w ws (Over y) l a i = tt

-- a call is made
waiting_said : (p : Program) (n : ℕ) (w : What) (ws : List What) (d : Doing) → (l : ℕ) → asked p d ≡ Some (record { what = w; depth = l }) → IsSaid p ws d → IsSaid p (w ∷ ws) (waiting p n d)
waiting_said p n w ws (Ready s d rs) l a i = i ∙ ap (λ z. all_some (reverse ws) ++ z ∷ []) (ap (option_map (λ (y : Asked). y.what)) a) ∙ sym (said_more w ws)
waiting_said p n w ws (Waits s d rs q k) l a i = cc
waiting_said p n w ws Absent l a i = tt
waiting_said p n w ws Unplaced l a i = tt
waiting_said p n w ws (Over y) l a i = tt

-- the caller is answered
answered_said : (p : Program) (x : End) (c : Option ℕ) (ws : List What) (d : Doing) → IsSaid p ws d → IsSaid p ws (answered x c d)
answered_said p x None ws d i = i
answered_said p x (Some c) ws (Waits s d rs q l) i =
    elim (either (c == q)) [
      | inl y ↦ rw y (asks_more p s d rs x ∙ ap (λ z. z ++ next_what p s d (rs ++ x ∷ []) ∷ []) i)
      | inr o ↦ rw o i
    ]
answered_said p x (Some c) ws (Ready s d rs) i = i
answered_said p x (Some c) ws Absent i = tt
answered_said p x (Some c) ws Unplaced i = tt
answered_said p x (Some c) ws (Over y) i = tt

-- after an entry of another body, what a body said, and its next ask if it may go on, still is the list of its asks
heard_said : (p : Program) (w : What) (c : Option ℕ) (ws : List What) (d : Doing) → IsSaid p ws d → IsSaid p ws (heard w c d)
heard_said p (Ended x) c ws d i = answered_said p x c ws d i
heard_said p Begun c ws d i = i
heard_said p (Made k) c ws d i = i
heard_said p (Sent o j vs) c ws d i = i
heard_said p (Called o j vs) c ws d i = i
heard_said p (Printed t) c ws d i = i
heard_said p (Fired k o ms vs) c ws d i = i

-- a later entry of the body itself is added to what it said
said_later : (p : Program) (h : List Entry) (e : Entry) (b : ℕ) → (e.body == b) ≡ true → e.number ≡ length h → b < length h → said b (e ∷ h) ≡ e.what ∷ said b h
said_later p h e b y n l = (let other : (e.number == b) ≡ false = ne_eqb e.number b (λ i. omega (arith, i, n, l)) in rw (y, other) refl)

-- a first entry is not
said_first : (p : Program) (h : List Entry) (e : Entry) (b : ℕ) → (e.body == b) ≡ true → e.number ≡ b → said b (e ∷ h) ≡ said b h
said_first p h e b y n = rw (y, eq-eqb e.number b n) refl

-- after an entry of its own, what a body said, and its next ask if it may go on, is the list of its asks, if that was so before
own_said : (p : Program) (h : List Entry) (b n : ℕ) (w : What) → IsPast p h → n ≡ length h → Comes p h n b w → IsSaid p (said b h) (doing p h b) → IsSaid p (said b (record { number = n; body = b; what = w } ∷ h)) (own p n w (λ q. maker q h) (doing p h) (doing p h b))
own_said p h b n Begun r e c i =
    let first : n ≡ b = (let z : length h ≡ 0 = ap length c.0 in omega (arith, e, z, c.1)) in
    rw (eq-eqb b b refl, eq-eqb n b first, said_nothing p h b r (omega (arith, e, first))) refl
own_said p h b n (Fired k o ms vs) r e c i =
    rw (eq-eqb b b refl, eq-eqb n b (sym c.0), said_nothing p h b r (omega (arith, e, c.0))) (begun_said p (Chord k o vs) (served p (Fired k o ms vs)) (λ q. maker q h) (doing p h))
own_said p h b n (Made k) r e c i =
    (let l = entry_within p h b r (asks_entry p (doing p h b) _ c.1) in rw (eq-eqb b b refl, ne_eqb n b (λ z. omega (arith, z, e, l))) (replied_said p _ (Made k) (said b h) (doing p h b) c.0 c.1 i))
own_said p h b n (Sent o j vs) r e c i =
    (let l = entry_within p h b r (asks_entry p (doing p h b) _ c.1) in rw (eq-eqb b b refl, ne_eqb n b (λ z. omega (arith, z, e, l))) (replied_said p _ (Sent o j vs) (said b h) (doing p h b) c.0 c.1 i))
own_said p h b n (Printed t) r e c i =
    (let l = entry_within p h b r (asks_entry p (doing p h b) _ c.1) in rw (eq-eqb b b refl, ne_eqb n b (λ z. omega (arith, z, e, l))) (replied_said p _ (Printed t) (said b h) (doing p h b) c.0 c.1 i))
own_said p h b n (Called o j vs) r e c i =
    (let l = entry_within p h b r (asks_entry p (doing p h b) _ c.1) in rw (eq-eqb b b refl, ne_eqb n b (λ z. omega (arith, z, e, l))) (waiting_said p n (Called o j vs) (said b h) (doing p h b) c.0 c.1 i))
own_said p h b n (Ended x) r e c i = tt

-- in a run, what each body said, and its next ask if it may go on, is the list of its asks
all_said : (p : Program) (h : List Entry) (b : ℕ) → IsPast p h → IsSaid p (said b h) (doing p h b)
all_said p [] b r = tt
all_said p (e ∷ h) b r =
    elim (either (e.body == b)) [
      | inl y ↦
          subst (λ c. IsSaid p (said c (e ∷ h)) (doing p (e ∷ h) c)) (eqb-true e.body b y)
          (rw (eq-eqb e.body e.body refl) (rw (eq-eqb e.body e.body refl) at (own_said p h e.body e.number e.what r.0 r.1.numbered r.1.comes (all_said p h e.body r.0))))
      | inr o ↦ rw o (heard_said p e.what (serves p e.body h) (said b h) (doing p h b) (all_said p h b r.0))
    ]

-- what a body that may go on said, and its next ask, is the list of its asks
pub entries_are_asks : EntriesAreAsks
entries_are_asks p h b d s rs r e = subst (λ (z : Doing). IsSaid p (said b h) z) e (all_said p h b r)

-- what a body that waits said is the list of its asks
pub call_is_last_ask : CallIsLastAsk
call_is_last_ask p h b d q l s rs r e = subst (λ (z : Doing). IsSaid p (said b h) z) e (all_said p h b r)
