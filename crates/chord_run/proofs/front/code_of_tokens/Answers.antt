use Rattle.chord_run.proofs.Starts.{points_at_token}
use Rattle.chord_run.proofs.front.code_of_tokens.Goals as goal

pub returns-in-Err-At-clause-fault : goal.returns-in-Err-At-clause-fault
returns-in-Err-At-clause-fault c =
    let fault = rw c.in-Err-At.field-0-is at c.in-Err-At.ensures.fault in
    (record { short = c.requires.short; tokens = c.args.tokens.now; read = c.requires.read; answer = rw c.in-Err-At.k-is fault }, points_at_token c.args.source.now c.args.tokens.now _ c.start_byte.result c.requires.short c.requires.read c.start_byte.ensures)

pub returns-in-Err-Tall-clause-fault : goal.returns-in-Err-Tall-clause-fault
returns-in-Err-Tall-clause-fault c =
    let fault = rw c.in-Err-Tall.field-0-is at c.in-Err-Tall.ensures.fault in
    (record { short = c.requires.short; tokens = c.args.tokens.now; read = c.requires.read; answer = rw c.in-Err-Tall.k-is fault }, points_at_token c.args.source.now c.args.tokens.now _ c.start_byte-in-Err-Tall.result c.requires.short c.requires.read c.start_byte-in-Err-Tall.ensures)
