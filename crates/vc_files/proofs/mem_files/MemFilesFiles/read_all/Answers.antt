use Rattle.std.proofs.Common.{rules}
use Rattle.vc_files.specs.MemFiles.{mem_held, mem_failing, mem_calls}
use Rattle.vc_files.proofs.OneFile.{brings_held}
use Rattle.vc_files.proofs.mem_files.MemFilesFiles.read_all.Goals as goal

pub returns-clause-told : goal.returns-clause-told
returns-clause-told c bytes held same =
    let files = c.args.self.now in
    brings_held (mem_failing files) (mem_calls files) (mem_held files) c.args.name.now c.args.most c.map_err-3.result bytes (search rules) (search rules) held
