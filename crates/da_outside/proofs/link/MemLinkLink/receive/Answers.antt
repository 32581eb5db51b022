use Rattle.std.proofs.Common.{rules}
use Rattle.da_outside.proofs.Lines.{receives_shown}
use Rattle.da_outside.proofs.link.MemLinkLink.receive.Goals as goal

pub returns : goal.returns
returns c = record {
  bytes =
      rw (c.pass.ensures, ← c.self.view_is)
      (receives_shown c.self.inside.rest c.ahead-ahead.result c.line-answer.result c.in_ok-got.got c.ahead-ahead.ensures.shows c.in_ok-got.ensures c.line-answer.ensures);
  talk = search rules;
  cause = search rules;
  listed = search rules;
  failed = search rules;
  calls = search rules;
}
