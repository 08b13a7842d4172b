-- How the code's values stand for those of the language.
use Rattle.std.specs.Prelude.{List, map}
use Rattle.pct_ask.specs.Tokens as language
use Rattle.script_parse.specs.declared.token.Token.{Token}
use Rattle.script_parse.specs.declared.token.Token.TheVariants.{Word, Number, Symbol}

-- a token without where it lies in memory
abbrev pub seen : Token → language.Token
seen (Word letters) = language.Word letters.now
seen (Number digits) = language.Number digits.now
seen (Symbol signs) = language.Symbol signs.now

abbrev pub all_seen : List Token → List language.Token
all_seen tokens = map seen tokens
