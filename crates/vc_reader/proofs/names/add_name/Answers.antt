use Rattle.vc_reader.proofs.FoundNames.{inserted}
use Rattle.vc_reader.proofs.names.add_name.Goals as goal

pub returns-in-Ok : goal.returns-in-Ok
returns-in-Ok c = inserted c.args.name c.args.names.now.keys c.insert.new.self.keys c.in-Ok.ensures.keys
