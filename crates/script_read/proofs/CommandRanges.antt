-- Commands and sessions.
use Rattle.std.proofs.Common.{◌≡◌, ℕ, ◌<◌, ◌≤◌, leb, ltb, cond, Bool, true, false, List, [], ◌∷◌, ◌++◌, length, length-append, Option, Some, None, refl, arith}
use Rattle.std.specs.Prelude.{IfSome, codes, option_and_then}
use Rattle.std.specs.List.{All, list_all}
use Rattle.std.specs.Str.{bytes_eq}
use Rattle.std.proofs.lemmas.Bool.{ltb-false, leb-false}
use Rattle.std.proofs.lemmas.List.Elements.{All-nil}
use Rattle.op_types.specs.declared.roles.TheConstants.{READER, WRITER}
use Rattle.serde_json.specs.Data.{Data, Items}
use Rattle.serde_json.specs.Find.{as_str, as_array}
use Rattle.script_read.specs.declared.refusal.ScriptRefusal.TheVariants.{Field, Limit}
use Rattle.script_read.specs.declared.commands.Verb.{Verb}
use Rattle.script_read.specs.declared.commands.Verb.TheVariants as verbs
use Rattle.script_read.specs.declared.script.Command.{Command}
use Rattle.script_read.specs.declared.script.Command.TheVariants.{Post, Read, ReadAll, Admit, Remove}
use Rattle.script_read.specs.declared.script.ScriptSession.{ScriptSession}
use Rattle.script_read.specs.Fields.{is_printable, printable, look_up, an_object, key, word, limited_text, no_further}
use Rattle.script_read.specs.Elements.{each}
use Rattle.script_read.specs.Commands.{verb_words, role_words, post_of, read_of, read_all_of, admit_of, remove_of, by_verb, command_of}
use Rattle.script_read.specs.Phases.{room_after, has_session, session_of}
use Rattle.script_read.specs.Limits.{IsNumber, IsPost, IsRole, HasRanges, IsSession}
use Rattle.script_read.proofs.Holding.{Holds, gives, after, skip, weaker, found_holds, key_holds, each_holds, passing, ranged}
use Rattle.script_read.proofs.Added.{All_more}

-- ---- texts and roles

abbrev IsPrintable : List ℕ → Type 0
IsPrintable text = list_all is_printable text ≡ true

text_by : (text : List ℕ) (b : Bool) → list_all is_printable text ≡ b
    → IfSome (cond b (Some text) None) IsPrintable
text_by text true e = e
text_by text false e = tt

text_of : (o : Option (List ℕ))
    → IfSome (option_and_then (λ text. cond (list_all is_printable text) (Some text) None) o) IsPrintable
text_of None = tt
text_of (Some text) = text_by text (list_all is_printable text) refl

text_holds : (name : List ℕ) (o : Data) → Holds IsPost (limited_text name 1024 o)
unfolding limited_text
text_holds name o =
    after (key name printable o) (key_holds IsPrintable name printable o (λ d. text_of (as_str d))) (λ text so.
    passing (Limit name) (ltb 1024 (length text)) (λ u most.
    gives IsPost text (ltb-false 1024 (length text) most, so)))

role_by : (a b : Bool) → IfSome (cond a (Some READER) (cond b (Some WRITER) None)) IsRole
role_by true b = (omega arith, omega arith)
role_by false true = (omega arith, omega arith)
role_by false false = tt

role_holds : (name : List ℕ) (o : Data) → Holds IsRole (word name role_words o)
unfolding word
role_holds name o =
    skip (key name as_str o) (λ w.
    found_holds IsRole name (look_up role_words w)
    (role_by (bytes_eq w (codes "reader")) (bytes_eq w (codes "writer"))))

-- ---- commands

post_holds : (wall : ℕ) (o : Data) → IsNumber wall → Holds HasRanges (post_of wall o)
unfolding post_of
post_holds wall o number =
    after (limited_text (codes "text") 1024 o) (text_holds (codes "text") o) (λ text short.
    skip (no_further 3 o) (λ only. gives HasRanges (Post wall text) (number, short)))

read_holds : (wall : ℕ) (o : Data) → IsNumber wall → Holds HasRanges (read_of wall o)
unfolding read_of
read_holds wall o number = skip (no_further 2 o) (λ only. gives HasRanges (Read wall) number)

read_all_holds : (wall : ℕ) (o : Data) → IsNumber wall → Holds HasRanges (read_all_of wall o)
unfolding read_all_of
read_all_holds wall o number = skip (no_further 2 o) (λ only. gives HasRanges (ReadAll wall) number)

admit_holds : (wall : ℕ) (o : Data) → IsNumber wall → Holds HasRanges (admit_of wall o)
unfolding admit_of
admit_holds wall o number =
    ranged (codes "user") 1 65535 o (λ user named.
    after (word (codes "role") role_words o) (role_holds (codes "role") o) (λ role known.
    skip (no_further 4 o) (λ only. gives HasRanges (Admit wall user role) (number, named, known))))

remove_holds : (wall : ℕ) (o : Data) → IsNumber wall → Holds HasRanges (remove_of wall o)
unfolding remove_of
remove_holds wall o number =
    ranged (codes "user") 1 65535 o (λ user named.
    skip (no_further 3 o) (λ only. gives HasRanges (Remove wall user) (number, named)))

verb_holds : (verb : Verb) (wall : ℕ) (o : Data) → IsNumber wall → Holds HasRanges (by_verb verb wall o)
verb_holds verbs.Post wall o number = post_holds wall o number
verb_holds verbs.Read wall o number = read_holds wall o number
verb_holds verbs.ReadAll wall o number = read_all_holds wall o number
verb_holds verbs.Admit wall o number = admit_holds wall o number
verb_holds verbs.Remove wall o number = remove_holds wall o number

-- a command for which there is room
abbrev HasRoom : ℕ → List Command → Command → Type 0
HasRoom room before c = HasRanges c × (length before < room)

command_holds : (room : ℕ) (before : List Command) (d : Data) → Holds (HasRoom room before) (command_of room before d)
unfolding command_of
command_holds room before d =
    skip (an_object (codes "do") d) (λ o.
    passing (Limit (codes "commands")) (leb room (length before)) (λ u more.
    skip (word (codes "do") verb_words o) (λ verb.
    ranged (codes "wall") 1 65535 o (λ wall number.
    weaker (by_verb verb wall o) (verb_holds verb wall o number)
    (λ c ranges. (ranges, leb-false room (length before) more))))))

-- ---- sessions

abbrev CommandsSoFar : ℕ → List Command → Type 0
CommandsSoFar room commands = All HasRanges commands × (length commands ≤ room)

one_command_more : (room : ℕ) (before : List Command) (d : Data) → CommandsSoFar room before
    → Holds (λ c. CommandsSoFar room (before ++ c ∷ [])) (command_of room before d)
one_command_more room before d so_far =
    weaker (command_of room before d) (command_holds room before d)
    (λ c h. (All_more HasRanges before c so_far.0 h.0, omega (arith, h.1, length-append before (c ∷ []))))

commands_hold : (room : ℕ) (ds : Items) → Holds (CommandsSoFar room) (each (command_of room) [] ds)
commands_hold room ds =
    each_holds (command_of room) (CommandsSoFar room) (one_command_more room) ds [] (All-nil HasRanges, omega arith)

-- a session behind those of its phase that came before
abbrev pub Follows : ℕ → List ScriptSession → ScriptSession → Type 0
Follows room before s = IsSession s × (has_session before s.user ≡ false)
    × (length s.commands ≤ room_after room before)

pub session_holds : (room : ℕ) (before : List ScriptSession) (d : Data)
    → Holds (Follows room before) (session_of room before d)
unfolding session_of
session_holds room before d =
    skip (an_object (codes "phases") d) (λ o.
    ranged (codes "user") 1 65535 o (λ user number.
    passing (Field (codes "user")) (has_session before user) (λ u fresh.
    skip (key (codes "do") as_array o) (λ ds.
    after (each (command_of (room_after room before)) [] ds) (commands_hold (room_after room before) ds)
    (λ commands kept.
    skip (no_further 2 o) (λ only.
    gives (Follows room before) (record { user = user; commands = commands })
    (record { user = number; commands = kept.0 }, fresh, kept.1)))))))
