use Rattle.da_userdb.proofs.UserStandings.{cursor_tells}
use Rattle.da_userdb.proofs.cursor.UserCursor.at.Goals as goal

pub returns : goal.returns
returns c = cursor_tells c.tell.result c.args.dbs.now c.args.self.now c.tell.ensures
