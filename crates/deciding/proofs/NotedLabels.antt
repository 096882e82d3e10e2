-- The value of a read is masked where index, array and context are public.
use mathlib.Core.Bool.{Bool, true, false, ◌||◌}
use mathlib.Core.Bool.{not as negated}
use mathlib.Core.Path.{◌≡◌, refl}

-- the index need not be asked about twice
pub both_public : (index other : Bool) → negated (index || other) ≡ negated ((index || other) || index)
both_public true y = refl
both_public false true = refl
both_public false false = refl
