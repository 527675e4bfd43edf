-- Private.
-- Term size is a norm. Nothing here has to be believed.
use Rattle.cti_terms.specs.Tree.{size, truth}
use Rattle.term_size.specs.Norm.{IsNorm}
use Rattle.term_size.specs.Occurrences.{size_row}
use Rattle.term_size.specs.TermSizeLaws.{term_size_is_a_norm}

-- term size obeys the laws of norms
pub is_a_norm : IsNorm size truth size_row
is_a_norm = term_size_is_a_norm
