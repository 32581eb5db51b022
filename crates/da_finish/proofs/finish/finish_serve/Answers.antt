use Rattle.da_turn.specs.Seats.{seen}
use Rattle.da_finish.proofs.PrintLemmas.{closed_ended, closed_finishes}
use Rattle.da_finish.proofs.finish.finish_serve.Goals as goal

pub print_history-requires : goal.print_history-requires
print_history-requires g c =
    closed_ended c.args.port.fixed c.close-core.result (seen c.args.seat) c.close-core.ensures.terms c.close-core.ensures.later c.requires.ended

pub returns : goal.returns
returns g c =
    closed_finishes c.args.port.fixed c.close-core.result (seen c.args.seat) c.close-core.ensures.terms c.close-core.ensures.later
    _ _ _ c.close-core.ensures.legal c.requires.ended c.print_history.ensures
