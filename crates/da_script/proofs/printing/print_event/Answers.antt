use Rattle.da_script.proofs.PrintedEvents.{printed_again}
use Rattle.da_script.proofs.printing.print_event.Goals as goal

pub returns-clause-again : goal.returns-clause-again
returns-clause-again c =
    printed_again c.line_of_event.result c.args.moment c.args.input.now c.ranges.moment.fits c.line_of_event.ensures.line c.line_of_event.ensures.held
