-- A pen that holds nothing writes the classes and the blocks, and is finished.
use Rattle.std.proofs.lemmas.Result.{on_ok_weaker, on_err_weaker}
use Rattle.chord_io.proofs.Pens.{Writes-join}
use Rattle.chord_gen.proofs.listing.listing.Goals as goal

pub returns-clause-whole : goal.returns-clause-whole
returns-clause-whole g c =
    let written = rw (c.new-pen.ensures, c.items.ensures, c.items-2.ensures, c.parts-parts.ensures.parts) at (Writes-join c.put_classes.ensures c.put_blocks.ensures) in
    on_ok_weaker c.finish.result (λ whole. whole _ _ _ written) c.finish.ensures.whole

pub returns-clause-prefix : goal.returns-clause-prefix
returns-clause-prefix g c =
    let written = rw (c.new-pen.ensures, c.items.ensures, c.items-2.ensures, c.parts-parts.ensures.parts) at (Writes-join c.put_classes.ensures c.put_blocks.ensures) in
    on_err_weaker c.finish.result (λ front. front _ _ _ written) c.finish.ensures.prefix

pub returns-clause-unfailed : goal.returns-clause-unfailed
returns-clause-unfailed g c =
    let written = rw (c.new-pen.ensures, c.items.ensures, c.items-2.ensures, c.parts-parts.ensures.parts) at (Writes-join c.put_classes.ensures c.put_blocks.ensures) in
    on_ok_weaker c.finish.result (λ unfailed. unfailed _ _ _ written) c.finish.ensures.unfailed

pub returns-clause-failed : goal.returns-clause-failed
returns-clause-failed g c =
    let written = rw (c.new-pen.ensures, c.items.ensures, c.items-2.ensures, c.parts-parts.ensures.parts) at (Writes-join c.put_classes.ensures c.put_blocks.ensures) in
    on_err_weaker c.finish.result (λ failed. failed _ _ _ written) c.finish.ensures.failed
