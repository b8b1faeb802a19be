use Rattle.std.proofs.Common.{rules}
use Rattle.std.proofs.lemmas.Str.Parse.{parse_plain}
use Rattle.desk.proofs.Parsed.{own}
use Rattle.desk.proofs.words.number_of.Goals as goal

pub returns : goal.returns
returns c = search (rules, parse_plain own 16 c.args.word.now c.parse.result c.parse.ensures.value.0 (search rules))
