-- That `going_on` reads plain digits as the library does.
use Rattle.std.proofs.Common.{◌≡◌, true, rules}
use Rattle.std.specs.Str.{all_ascii_digits}
use Rattle.std.proofs.lemmas.Str.Parse.{IsNumeralModel, numerals_by_fold, tells_all_ascii_digits}
use Rattle.desk.specs.Digits.{going_on}

pub own : IsNumeralModel (λ ds. all_ascii_digits ds ≡ true) (going_on 0)
own = numerals_by_fold _ tells_all_ascii_digits going_on (search rules)
