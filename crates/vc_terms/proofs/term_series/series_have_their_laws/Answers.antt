use Rattle.vc_terms.proofs.term_series.series_have_their_laws.Goals as goal

pub returns : goal.returns
returns g c R L =
    record {
      grouped = c.products_of_series.ensures.grouped R L;
      one_left = c.products_of_series.ensures.one_left R L;
      one_right = c.products_of_series.ensures.one_right R L;
      zero_left = c.products_of_series.ensures.zero_left R L;
      zero_right = c.products_of_series.ensures.zero_right R L;
      weight_left = c.products_of_series.ensures.weight_left R L;
      weight_right = c.products_of_series.ensures.weight_right R L;
      product_same = c.products_of_series.ensures.same R L;
      star_zero = c.stars_of_series.ensures.zero R L;
      star_same = c.stars_of_series.ensures.same R L;
      shuffle_one_left = c.shuffles_of_series.ensures.one_left R L;
      shuffle_one_right = c.shuffles_of_series.ensures.one_right R L;
      shuffle_zero_left = c.shuffles_of_series.ensures.zero_left R L;
      shuffle_zero_right = c.shuffles_of_series.ensures.zero_right R L;
      shuffle_same = c.shuffles_of_series.ensures.same R L;
      sums = c.members_of_terms.ensures.sums R L;
      products = c.members_of_terms.ensures.products R L;
      constants = c.constants_of_terms.ensures R L;
    }
