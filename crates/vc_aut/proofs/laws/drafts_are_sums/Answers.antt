use Rattle.std.proofs.Common.{refl, []}
use Rattle.vc_aut.proofs.Added.{weight-of_inserted, inserted_are_gathered, in_order-inserted_all}
use Rattle.vc_aut.proofs.Inserted.{in_order-none}
use Rattle.vc_aut.proofs.laws.drafts_are_sums.Goals as goal

pub returns : goal.returns
returns g c =
    let total = c.words_are_ordered.ensures.total in
    let equal = c.words_are_ordered.ensures.equal in
    record {
      weight = λ R L added d. weight-of_inserted total equal R L added d;
      gathered = λ R L same tells added. inserted_are_gathered total equal R L same tells added;
      order = λ R added. in_order-inserted_all total equal R [] added (in_order-none [] refl);
    }
