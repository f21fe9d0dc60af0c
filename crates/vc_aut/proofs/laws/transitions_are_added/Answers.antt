use Rattle.vc_aut.proofs.Added.{weight-inserted, triples-inserted, standing-member}
use Rattle.vc_aut.proofs.Inserted.{in_order-inserted}
use Rattle.vc_aut.proofs.Order.{triple_order_total}
use Rattle.vc_aut.proofs.laws.transitions_are_added.Goals as goal

pub returns : goal.returns
returns g c =
    let total = c.words_are_ordered.ensures.total in
    let equal = c.words_are_ordered.ensures.equal in
    record {
      weight = λ R L ts t d. weight-inserted total equal R L ts t d;
      triples = λ R ts t d. triples-inserted total equal R ts t d;
      order = λ R ts t h. in_order-inserted R (triple_order_total total equal) ts t h;
      standing = λ ts t w h. standing-member total equal ts t w h;
    }
