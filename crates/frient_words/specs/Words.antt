-- What words ask of the program. They are read by a command with one value, `verb`, and one option, `--number`.
use Rattle.std.specs.Prelude.{◌≡◌, ◌≢◌, ◌⊎◌, ◌<◌, ◌^◌, ℕ, List, [], ◌∷◌, codes, map, Option, Some, None, Result, Ok, Err, true}
use Rattle.std.specs.Str.Parse.{IsNumeral, digits_value, without_leading_plus}
use Rattle.clap.specs.Words.{App, Rule, app_of, fault_of, first_of, first_value, found_of, matches_of, new_app, new_rule, rows_of, with_rule}
use Rattle.clap.specs.Simple.{on_top}
use Rattle.clap.specs.declared.builder.command.Command.{Command}
use Rattle.clap.specs.declared.builder.value_parser.ValueParser.{ValueParser}
use Rattle.clap.specs.declared.builder.value_parser.ValueParser.TheVariants as parsers
use Rattle.clap.specs.declared.parser.matches.ArgMatches.{ArgMatches}
use Rattle.fr_bytes.specs.declared.refusals.ReadRefusal.{ReadRefusal}
use Rattle.fr_bytes.specs.declared.refusals.ReadRefusal.TheVariants as refusals
use Rattle.frient_words.specs.declared.words.Wish.{Wish}
use Rattle.frient_words.specs.declared.words.Wish.TheVariants as wishes

-- ---- the command

-- a parser that takes `run` and no other value
abbrev pub IsRunAlone : ValueParser → Type 0
IsRunAlone p = (names : _) × (p ≡ parsers.Names names) × (map (λ s. s.now) names.now ≡ codes "run" ∷ [])

abbrev pub verb : ValueParser → Rule
verb p = record (new_rule (codes "verb")) { required = true; parser = Some p }

abbrev pub number : Rule
number = record (new_rule (codes "number")) { long = Some (codes "number") }

-- its words begin behind the program's name
abbrev pub frient : ValueParser → App
frient p = with_rule (with_rule (on_top (λ s. record s { no_binary_name = true }) (new_app (codes "frient"))) (verb p)) number

-- ---- what is asked

-- The text is that of a number of 32 bits: decimal digits, behind a plus or none.
pub record IsNumber (text : List ℕ) (n : ℕ) : Type 0 where
  pub digits : IsNumeral 10 (without_leading_plus text)
  pub value : digits_value 10 (without_leading_plus text) ≡ n
  pub small : n < 2 ^ 32

-- The option isn't given, or its value is a number.
abbrev pub IsAsked : Option (List ℕ) → Wish → Type 0
IsAsked None wish = wish ≡ wishes.Script
IsAsked (Some text) wish = (n : ℕ) × IsNumber text n × (wish ≡ wishes.Generated n)

-- Its value is no number.
abbrev pub IsNoNumber : Option (List ℕ) → Type 0
IsNoNumber None = ⊥
IsNoNumber (Some text) = (n : ℕ) → IsNumber text n → ⊥

-- the value of the option
abbrev pub number_text : ValueParser → List (List ℕ) → Option (List ℕ)
number_text p words = first_of (codes "number") (matches_of (frient p) words)

-- The command takes the words, and they ask for this.
pub record Asks (words : List (List ℕ)) (wish : Wish) : Type 0 where
  pub parser : ValueParser
  pub run : IsRunAlone parser
  pub faultless : fault_of (frient parser) words ≡ []
  pub asked : IsAsked (number_text parser words) wish

-- The command finds a fault in the words, a request for help among them, or the option's value is no number.
pub record AsksNothing (words : List (List ℕ)) : Type 0 where
  pub parser : ValueParser
  pub run : IsRunAlone parser
  pub fault : (fault_of (frient parser) words ≢ []) ⊎ IsNoNumber (number_text parser words)

abbrev pub Reads : List (List ℕ) → Result Wish ReadRefusal → Type 0
Reads words (Ok wish) = Asks words wish
Reads words (Err refusals.NotForm) = AsksNothing words
Reads words (Err refusals.NoMemory) = Unit {0}

-- ---- steps

abbrev pub IsFrient : Command → Type 0
IsFrient c = (p : ValueParser) × IsRunAlone p × (app_of c ≡ frient p)

-- the matches of the words, or none where there is a fault
abbrev pub Matches : List (List ℕ) → Result ArgMatches ReadRefusal → Type 0
Matches words (Ok m) = (p : ValueParser) × IsRunAlone p × (fault_of (frient p) words ≡ [])
    × (rows_of (found_of m) ≡ matches_of (frient p) words)
Matches words (Err refusals.NotForm) = (p : ValueParser) × IsRunAlone p × (fault_of (frient p) words ≢ [])
Matches words (Err refusals.NoMemory) = Unit {0}

abbrev pub Wishes : Option (List ℕ) → Result Wish ReadRefusal → Type 0
Wishes text (Ok wish) = IsAsked text wish
Wishes text (Err refusals.NotForm) = IsNoNumber text
Wishes text (Err refusals.NoMemory) = ⊥
