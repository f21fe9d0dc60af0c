use Rattle.std.proofs.Common.{map, sym, ◌∙◌, subst}
use Rattle.vc_files.specs.Files.{Holds}
use Rattle.vc_files.specs.MemFile.{entry}
use Rattle.vc_files.proofs.Names.{passed, met, names_same, names_differ}
use Rattle.vc_files.proofs.mem_files.find.Goals as goal

pub returns-then-eq : goal.returns-then-eq
returns-then-eq c =
    let same = sym c.as_str.ensures.value ∙ names_same c.as_str.result.now c.args.name.now (sym c.if-eq.ensures) in
    subst (λ b. Holds (map entry c.args.files.now) c.args.name.now b) (sym c.as_slice.ensures.value)
    (c.loop-file.invariant.to _ (met c.args.files.now c.loop-file.file-index c.file-item.result c.args.name.now c.loop-file-test.true c.file-item.is same))

pub loop-file-preserved : goal.loop-file-preserved
loop-file-preserved c =
    let other = passed c.args.files.now c.loop-file.file-index c.file-item.result c.args.name.now c.loop-file-test.true c.file-item.is
    (λ z. names_differ c.as_str.result.now c.args.name.now (sym c.if-eq.ensures) (c.as_str.ensures.value ∙ z)) in
    record {
      to = λ b h. c.loop-file.invariant.to b (other.to b h);
      from = λ b h. other.from b (c.loop-file.invariant.from b h);
    }
