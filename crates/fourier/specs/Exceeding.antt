-- Private.
-- What a comparison of fractions shows.
use Rattle.std.specs.Prelude.{◌≡◌, Bool, Option, Some, None, Result, Ok, Err}
use Rattle.rational128.specs.declared.ratio.Wide.{Wide}

-- the answer is the value of a comparison, and Wide exactly where it has none
abbrev pub Tells : Option Bool → Result Bool Wide → Type 0
Tells o (Ok more) = o ≡ Some more
Tells o (Err wide) = o ≡ None
