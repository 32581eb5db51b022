use Rattle.da_passdb.proofs.Moves.{unreadable}
use Rattle.da_passdb.proofs.outcome.read_stored.Goals as goal

pub returns-in-Err-UnknownScheme : goal.returns-in-Err-UnknownScheme
returns-in-Err-UnknownScheme c =
    unreadable c.args.default c.args.text.now (rw (c.in-Err-UnknownScheme.field-0-is, c.bytes.ensures) at c.in-Err-UnknownScheme.ensures)
