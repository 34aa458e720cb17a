use Rattle.std.proofs.Common.{◌≡◌, true, false, refl, sym, ap, ◌∙◌, subst, ⊎_elim, inl, inr}
use Rattle.chord_bag.specs.Reads.{IsOnlyLooks}
use Rattle.chord_match.specs.Findings.{read_so}
use Rattle.chord_rule.specs.declared.view.View.{View}
use Rattle.chord_rule.specs.Duties.{HasDuty}
use Rattle.chord_space.specs.Desks.{view, program_of}
use Rattle.chord_word.specs.declared.cells.Cell.TheVariants as a_cell
use Rattle.chord_worker.proofs.Attending.{the_duty, still_minds, minded, looks_kept, looks_draws, looks_on, cell_looks}
use Rattle.chord_worker.proofs.Drawn.{drew_since}
use Rattle.chord_worker.proofs.Stepping.{minded_since}
use Rattle.chord_worker.proofs.Stocked.{stocked_alike}
use Rattle.chord_worker.proofs.worker.Worker.attend.Goals as goal

pub find-requires-clause-duty : goal.find-requires-clause-duty
find-requires-clause-duty g c =
    let t = the_duty _ _ _ c.requires.minds.duty in (t.0, subst (HasDuty t.0) (sym t.1) (inl refl), t.2, t.3)

pub try_to_fire-requires-clause-minds : goal.try_to_fire-requires-clause-minds
try_to_fire-requires-clause-minds g c =
    let f = c.in-Match.ensures.finding in
    still_minds c.args.space.now c.args.self.now (record c.args.self.now { desk = c.find.new.desk }) _ _ c.requires.minds c.find.ensures.desk refl
    (looks_on _ _ _ (cell_looks (view c.args.self.now.desk) c.args.message.number (record { cell = a_cell.Pending; next = f.next })) f.sought.grows.only)

pub returns-in-Busy-clause-again : goal.returns-in-Busy-clause-again
returns-in-Busy-clause-again g c = λ e.
    let v = view c.args.self.now.desk in
    let m = c.args.message.number in
    still_minds c.args.space.now c.args.self.now (record c.args.self.now { desk = c.find.new.desk }) _ _ c.requires.minds c.find.ensures.desk refl
    (⊎_elim
    (λ t. subst (IsOnlyLooks v) (sym t.1.1) (cell_looks v m (record { cell = a_cell.Claimed; next = t.1.0 })))
    (λ b. looks_on _ _ _ (cell_looks v m (record { cell = a_cell.Pending; next = b.next })) b.sought.grows.only)
    c.in-Busy.ensures.finding.one)

pub returns-in-Left-clause-over : goal.returns-in-Left-clause-over
returns-in-Left-clause-over g c = λ e.
    let v = view c.args.self.now.desk in
    let m = c.args.message.number in
    let w' = record c.args.self.now { desk = c.find.new.desk } in (
      ⊎_elim
          (λ t. minded c.args.space.now c.args.self.now w' _ _ c.requires.minds c.find.ensures.desk refl (read_so v m (a_cell.Woken t.0) t.1) (cell_looks v m (record { cell = a_cell.Woken t.0; next = t.1 })) t.2)
          (λ t. minded c.args.space.now c.args.self.now w' _ _ c.requires.minds c.find.ensures.desk refl t.0 (looks_on _ _ _ (cell_looks v m (record { cell = a_cell.Pending; next = t.1.next })) t.1.sought.grows.only) t.2)
          c.in-Left.ensures.finding,
      λ z. let k : true ≡ false = sym z ∙ c.requires.minds.untold in absurd (cc),
    )

pub returns-in-Taken-clause-over : goal.returns-in-Taken-clause-over
returns-in-Taken-clause-over g c = λ e.
    let v = view c.args.self.now.desk in
    let m = c.args.message.number in
    let t = c.in-Taken.ensures.finding in (
      minded c.args.space.now c.args.self.now (record c.args.self.now { desk = c.find.new.desk }) _ _ c.requires.minds c.find.ensures.desk refl (read_so v m a_cell.Consumed t.0) (cell_looks v m (record { cell = a_cell.Consumed; next = t.0 })) t.1,
      λ z. let k : true ≡ false = sym z ∙ c.requires.minds.untold in absurd (cc),
    )

pub returns-in-Match-clause-minded : goal.returns-in-Match-clause-minded
returns-in-Match-clause-minded g c = λ e.
    minded_since g.G.Gate.knows _ _ _ _ _ _ refl (looks_kept (view c.args.self.now.desk) (view c.find.new.desk) (looks_on _ _ _ (cell_looks (view c.args.self.now.desk) c.args.message.number (record { cell = a_cell.Pending; next = c.in-Match.ensures.finding.next })) c.in-Match.ensures.finding.sought.grows.only))
    (c.try_to_fire.ensures.minded e)

pub returns-in-Match-clause-same : goal.returns-in-Match-clause-same
returns-in-Match-clause-same g c = λ e.
    let same = c.try_to_fire.ensures.same e in (
      same.0,
      same.1 ∙ looks_kept (view c.args.self.now.desk) (view c.find.new.desk) (looks_on _ _ _ (cell_looks (view c.args.self.now.desk) c.args.message.number (record { cell = a_cell.Pending; next = c.in-Match.ensures.finding.next })) c.in-Match.ensures.finding.sought.grows.only),
    )

pub returns-in-Busy-clause-same : goal.returns-in-Busy-clause-same
returns-in-Busy-clause-same g c = λ e.
    let v = view c.args.self.now.desk in
    let m = c.args.message.number in (
      refl,
      looks_kept v (view c.find.new.desk)
          (⊎_elim
          (λ t. subst (IsOnlyLooks v) (sym t.1.1) (cell_looks v m (record { cell = a_cell.Claimed; next = t.1.0 })))
          (λ b. looks_on _ _ _ (cell_looks v m (record { cell = a_cell.Pending; next = b.next })) b.sought.grows.only)
          c.in-Busy.ensures.finding.one),
    )

pub returns-in-Left-clause-minded : goal.returns-in-Left-clause-minded
returns-in-Left-clause-minded g c = λ e.
    let v = view c.args.self.now.desk in
    let m = c.args.message.number in
    inl (
      refl,
      ⊎_elim
          (λ t. ap (λ (z : View). z.kept) t.2)
          (λ t. ap (λ (z : View). z.kept) t.2 ∙ looks_kept v t.0 (looks_on _ _ _ (cell_looks v m (record { cell = a_cell.Pending; next = t.1.next })) t.1.sought.grows.only))
          c.in-Left.ensures.finding,
    )

pub returns-in-Taken-clause-minded : goal.returns-in-Taken-clause-minded
returns-in-Taken-clause-minded g c = λ e. inl (refl, ap (λ (z : View). z.kept) c.in-Taken.ensures.finding.1)

pub returns-in-Match-clause-hindered : goal.returns-in-Match-clause-hindered
returns-in-Match-clause-hindered g c = λ e.
    let lost = c.try_to_fire.ensures.lost e in
    inr (record {
      found = view c.find.new.desk;
      chord = _;
      members = c.find.new.members;
      nexts = c.find.new.nexts;
      is_match = c.in-Match.ensures.finding;
      member = lost.0;
      lost = lost.1;
    })

pub returns-in-Busy-clause-hindered : goal.returns-in-Busy-clause-hindered
returns-in-Busy-clause-hindered g c = λ e. inl (_, c.in-Busy.ensures.finding)

pub returns-in-Match-clause-drew : goal.returns-in-Match-clause-drew
returns-in-Match-clause-drew g c =
    drew_since (view c.args.self.now.desk).draws (view c.find.new.desk).draws (view c.try_to_fire.new.self.desk).draws
    (looks_draws (view c.args.self.now.desk) (view c.find.new.desk) (looks_on _ _ _ (cell_looks (view c.args.self.now.desk) c.args.message.number (record { cell = a_cell.Pending; next = c.in-Match.ensures.finding.next })) c.in-Match.ensures.finding.sought.grows.only))
    c.try_to_fire.ensures.drew

pub returns-in-Match-clause-undrawn : goal.returns-in-Match-clause-undrawn
returns-in-Match-clause-undrawn g c = λ e.
    c.try_to_fire.ensures.undrawn e
    ∙ looks_draws (view c.args.self.now.desk) (view c.find.new.desk) (looks_on _ _ _ (cell_looks (view c.args.self.now.desk) c.args.message.number (record { cell = a_cell.Pending; next = c.in-Match.ensures.finding.next })) c.in-Match.ensures.finding.sought.grows.only)

pub returns-in-Busy-clause-undrawn : goal.returns-in-Busy-clause-undrawn
returns-in-Busy-clause-undrawn g c = λ e.
    let v = view c.args.self.now.desk in
    let m = c.args.message.number in
    looks_draws v (view c.find.new.desk)
    (⊎_elim
    (λ t. subst (IsOnlyLooks v) (sym t.1.1) (cell_looks v m (record { cell = a_cell.Claimed; next = t.1.0 })))
    (λ b. looks_on _ _ _ (cell_looks v m (record { cell = a_cell.Pending; next = b.next })) b.sought.grows.only)
    c.in-Busy.ensures.finding.one)

pub returns-in-Busy-clause-drew : goal.returns-in-Busy-clause-drew
returns-in-Busy-clause-drew g c =
    let v = view c.args.self.now.desk in
    let m = c.args.message.number in
    inl (looks_draws v (view c.find.new.desk)
    (⊎_elim
    (λ t. subst (IsOnlyLooks v) (sym t.1.1) (cell_looks v m (record { cell = a_cell.Claimed; next = t.1.0 })))
    (λ b. looks_on _ _ _ (cell_looks v m (record { cell = a_cell.Pending; next = b.next })) b.sought.grows.only)
    c.in-Busy.ensures.finding.one))

pub returns-in-Left-clause-drew : goal.returns-in-Left-clause-drew
returns-in-Left-clause-drew g c =
    let v = view c.args.self.now.desk in
    let m = c.args.message.number in
    inl (⊎_elim
    (λ t. ap (λ (z : View). z.draws) t.2)
    (λ t. ap (λ (z : View). z.draws) t.2 ∙ looks_draws v t.0 (looks_on _ _ _ (cell_looks v m (record { cell = a_cell.Pending; next = t.1.next })) t.1.sought.grows.only))
    c.in-Left.ensures.finding)

pub returns-in-Taken-clause-drew : goal.returns-in-Taken-clause-drew
returns-in-Taken-clause-drew g c = inl (ap (λ (z : View). z.draws) c.in-Taken.ensures.finding.1)

pub returns-in-Match-clause-stock : goal.returns-in-Match-clause-stock
returns-in-Match-clause-stock g c =
    stocked_alike (program_of c.args.space.now) (view c.args.self.now.desk).draws (view c.find.new.desk).draws c.args.self.now.spare c.args.self.now.spare c.try_to_fire.new.self (λ _. refl) c.try_to_fire.ensures.stock
    (looks_draws (view c.args.self.now.desk) (view c.find.new.desk) (looks_on _ _ _ (cell_looks (view c.args.self.now.desk) c.args.message.number (record { cell = a_cell.Pending; next = c.in-Match.ensures.finding.next })) c.in-Match.ensures.finding.sought.grows.only))

pub returns-in-Busy-clause-stock : goal.returns-in-Busy-clause-stock
returns-in-Busy-clause-stock g c = λ _. inl refl

pub returns-in-Left-clause-stock : goal.returns-in-Left-clause-stock
returns-in-Left-clause-stock g c = λ _. inl refl

pub returns-in-Taken-clause-stock : goal.returns-in-Taken-clause-stock
returns-in-Taken-clause-stock g c = λ _. inl refl

pub returns-in-Match-clause-played : goal.returns-in-Match-clause-played
returns-in-Match-clause-played g c = λ none still.
    c.try_to_fire.ensures.played none still
    ∙ looks_draws (view c.args.self.now.desk) (view c.find.new.desk) (looks_on _ _ _ (cell_looks (view c.args.self.now.desk) c.args.message.number (record { cell = a_cell.Pending; next = c.in-Match.ensures.finding.next })) c.in-Match.ensures.finding.sought.grows.only)

pub returns-in-Busy-clause-played : goal.returns-in-Busy-clause-played
returns-in-Busy-clause-played g c = λ none still.
    let v = view c.args.self.now.desk in
    let m = c.args.message.number in
    looks_draws v (view c.find.new.desk)
    (⊎_elim
    (λ t. subst (IsOnlyLooks v) (sym t.1.1) (cell_looks v m (record { cell = a_cell.Claimed; next = t.1.0 })))
    (λ b. looks_on _ _ _ (cell_looks v m (record { cell = a_cell.Pending; next = b.next })) b.sought.grows.only)
    c.in-Busy.ensures.finding.one)

pub returns-in-Left-clause-played : goal.returns-in-Left-clause-played
returns-in-Left-clause-played g c = λ none still.
    let v = view c.args.self.now.desk in
    let m = c.args.message.number in
    ⊎_elim
    (λ t. ap (λ (z : View). z.draws) t.2)
    (λ t. ap (λ (z : View). z.draws) t.2 ∙ looks_draws v t.0 (looks_on _ _ _ (cell_looks v m (record { cell = a_cell.Pending; next = t.1.next })) t.1.sought.grows.only))
    c.in-Left.ensures.finding

pub returns-in-Taken-clause-played : goal.returns-in-Taken-clause-played
returns-in-Taken-clause-played g c = λ none still. ap (λ (z : View). z.draws) c.in-Taken.ensures.finding.1
