-- How lists of observations are compared: "One list begins another if the other is it with nothing or something after it."
use Rattle.std.specs.Prelude.{List, ◌++◌, ◌≡◌, ◌⊎◌}

pub record Begins {A : Type 0} (xs ys : List A) : Type 0 where
  pub after : List A
  pub whole : ys ≡ xs ++ after

-- one of the two lists begins the other
pub record OneBegins {A : Type 0} (xs ys : List A) : Type 0 where
  pub either : Begins xs ys ⊎ Begins ys xs
