-- Tamper lines.
use Rattle.std.proofs.Common.{◌≡◌, ℕ, leb, cond, Bool, true, false, List, [], ◌∷◌, ◌++◌, length, Option, Some, None, refl}
use Rattle.std.specs.Prelude.{IfSome, codes, ◌&&◌, option_and_then}
use Rattle.std.specs.List.{All}
use Rattle.std.specs.Result.{result_ok}
use Rattle.std.specs.Cmp.{first_so, second_so}
use Rattle.std.proofs.lemmas.Bool.{leb-true}
use Rattle.std.proofs.lemmas.List.Elements.{All-nil}
use Rattle.hex.specs.Hex.{decode_of}
use Rattle.serde_json.specs.Data.{Data, Items}
use Rattle.serde_json.specs.Find.{as_str, as_array}
use Rattle.fr_bytes.specs.Parts.{IsWithin}
use Rattle.script_read.specs.declared.tamper.LineKind.{LineKind}
use Rattle.script_read.specs.declared.tamper.LineKind.TheVariants as kinds
use Rattle.script_read.specs.declared.script.TamperLine.{TamperLine}
use Rattle.script_read.specs.declared.script.TamperLine.TheVariants as lines
use Rattle.script_read.specs.Refusal.{◌>>=◌}
use Rattle.script_read.specs.Fields.{listed, sized, hexadecimal_within, an_object, key, word, list_within, no_further}
use Rattle.script_read.specs.Elements.{each, alone}
use Rattle.script_read.specs.Tamper.{any_number, kind_words, flip_of, cut_of, add_of, from_of, branch_of, number_of, serve_of, forge_of, replay_of, twin_of, by_kind, line_of}
use Rattle.script_read.specs.Script.{lines_of}
use Rattle.script_read.specs.Limits.{IsNumber, HasLineRanges, AreLines}
use Rattle.script_read.proofs.Holding.{Holds, gives, after, skip, weaker, found_holds, key_holds, within, each_holds, ranged}
use Rattle.script_read.proofs.Added.{All_more, listed_at}

-- ---- bytes of a limited number

abbrev HasBytes : ℕ → ℕ → List ℕ → Type 0
HasBytes low high bytes = IsWithin low high (length bytes)

bytes_by : (low high : ℕ) (bytes : List ℕ) (b : Bool) → (leb low (length bytes) && leb (length bytes) high) ≡ b
    → IfSome (cond b (Some bytes) None) (HasBytes low high)
bytes_by low high bytes true e =
    (leb-true low (length bytes) (first_so _ _ e), leb-true (length bytes) high (second_so _ _ e))
bytes_by low high bytes false e = tt

sized_of : (low high : ℕ) (o : Option (List ℕ)) → IfSome (option_and_then (sized low high) o) (HasBytes low high)
sized_of low high None = tt
sized_of low high (Some bytes) = bytes_by low high bytes (leb low (length bytes) && leb (length bytes) high) refl

bytes_of : (low high : ℕ) (o : Option (List ℕ))
    → IfSome (option_and_then (λ text. option_and_then (sized low high) (result_ok (decode_of text))) o)
    (HasBytes low high)
bytes_of low high None = tt
bytes_of low high (Some text) = sized_of low high (result_ok (decode_of text))

bytes_at : (name : List ℕ) (low high : ℕ) (o : Data)
    → Holds (HasBytes low high) (key name (hexadecimal_within low high) o)
bytes_at name low high o =
    key_holds (HasBytes low high) name (hexadecimal_within low high) o (λ d. bytes_of low high (as_str d))

-- ---- lines on the reply to a command

flip_holds : (o : Data) → Holds HasLineRanges (flip_of o)
unfolding flip_of
flip_holds o =
    skip (any_number (codes "phase") o) (λ phase.
    skip (any_number (codes "session") o) (λ session.
    skip (any_number (codes "command") o) (λ command.
    skip (any_number (codes "byte") o) (λ byte.
    ranged (codes "mask") 1 255 o (λ mask inside.
    skip (no_further 6 o) (λ only.
    gives HasLineRanges (lines.Flip phase session command byte mask) inside))))))

cut_holds : (o : Data) → Holds HasLineRanges (cut_of o)
unfolding cut_of
cut_holds o =
    skip (any_number (codes "phase") o) (λ phase.
    skip (any_number (codes "session") o) (λ session.
    skip (any_number (codes "command") o) (λ command.
    skip (any_number (codes "keep") o) (λ keep.
    skip (no_further 5 o) (λ only.
    gives HasLineRanges (lines.Cut phase session command keep) tt)))))

add_holds : (o : Data) → Holds HasLineRanges (add_of o)
unfolding add_of
add_holds o =
    skip (any_number (codes "phase") o) (λ phase.
    skip (any_number (codes "session") o) (λ session.
    skip (any_number (codes "command") o) (λ command.
    after (key (codes "bytes") (hexadecimal_within 1 1024) o) (bytes_at (codes "bytes") 1 1024 o) (λ bytes few.
    skip (no_further 5 o) (λ only.
    gives HasLineRanges (lines.Add phase session command bytes) few)))))

from_holds : (o : Data) → Holds HasLineRanges (from_of o)
unfolding from_of
from_holds o =
    skip (any_number (codes "phase") o) (λ phase.
    skip (any_number (codes "session") o) (λ session.
    skip (any_number (codes "command") o) (λ command.
    skip (any_number (codes "from") o) (λ from.
    skip (no_further 5 o) (λ only.
    gives HasLineRanges (lines.From phase session command from) tt)))))

-- ---- lines on a wall and its branches

branch_holds : (o : Data) → Holds HasLineRanges (branch_of o)
unfolding branch_of
branch_holds o =
    skip (any_number (codes "phase") o) (λ phase.
    ranged (codes "wall") 1 65535 o (λ wall number.
    ranged (codes "name") 1 8 o (λ name named.
    skip (any_number (codes "of") o) (λ of.
    skip (any_number (codes "size") o) (λ size.
    skip (no_further 6 o) (λ only.
    gives HasLineRanges (lines.Branch phase wall name of size) (number, named)))))))

one_number_more : (before : List ℕ) (d : Data) → All IsNumber before
    → Holds (λ n. All IsNumber (before ++ n ∷ [])) (alone number_of before d)
unfolding number_of
one_number_more before d so_far =
    weaker (number_of d) (found_holds IsNumber (codes "users") (listed d) (within 1 65535 d))
    (λ n number. All_more IsNumber before n so_far number)

numbers_hold : (ds : Items) → Holds (All IsNumber) (each (alone number_of) [] ds)
numbers_hold ds = each_holds (alone number_of) (All IsNumber) one_number_more ds [] (All-nil IsNumber)

serve_holds : (o : Data) → Holds HasLineRanges (serve_of o)
unfolding serve_of
serve_holds o =
    skip (any_number (codes "phase") o) (λ phase.
    ranged (codes "wall") 1 65535 o (λ wall number.
    skip (any_number (codes "branch") o) (λ branch.
    skip (key (codes "users") as_array o) (λ ds.
    after (each (alone number_of) [] ds) (numbers_hold ds) (λ users numbers.
    skip (no_further 5 o) (λ only.
    gives HasLineRanges (lines.Serve phase wall branch users) (number, numbers)))))))

forge_holds : (o : Data) → Holds HasLineRanges (forge_of o)
unfolding forge_of
forge_holds o =
    skip (any_number (codes "phase") o) (λ phase.
    ranged (codes "wall") 1 65535 o (λ wall number.
    skip (any_number (codes "branch") o) (λ branch.
    ranged (codes "author") 1 65535 o (λ author named.
    skip (any_number (codes "seq") o) (λ seq.
    skip (any_number (codes "epoch") o) (λ epoch.
    skip (any_number (codes "view") o) (λ view.
    after (key (codes "body") (hexadecimal_within 0 1024) o) (bytes_at (codes "body") 0 1024 o) (λ body few.
    skip (no_further 9 o) (λ only.
    gives HasLineRanges (lines.Forge phase wall branch author seq epoch view body) (number, named, few))))))))))

replay_holds : (o : Data) → Holds HasLineRanges (replay_of o)
unfolding replay_of
replay_holds o =
    skip (any_number (codes "phase") o) (λ phase.
    ranged (codes "wall") 1 65535 o (λ wall number.
    skip (any_number (codes "branch") o) (λ branch.
    skip (any_number (codes "of") o) (λ of.
    skip (any_number (codes "position") o) (λ position.
    skip (no_further 6 o) (λ only.
    gives HasLineRanges (lines.Replay phase wall branch of position) number))))))

twin_holds : (o : Data) → Holds HasLineRanges (twin_of o)
unfolding twin_of
twin_holds o =
    skip (any_number (codes "phase") o) (λ phase.
    ranged (codes "wall") 1 65535 o (λ wall number.
    skip (any_number (codes "branch") o) (λ branch.
    skip (any_number (codes "position") o) (λ position.
    skip (no_further 5 o) (λ only.
    gives HasLineRanges (lines.Twin phase wall branch position) number)))))

-- ---- all lines

kind_holds : (kind : LineKind) (o : Data) → Holds HasLineRanges (by_kind kind o)
kind_holds kinds.Flip o = flip_holds o
kind_holds kinds.Cut o = cut_holds o
kind_holds kinds.Add o = add_holds o
kind_holds kinds.From o = from_holds o
kind_holds kinds.Branch o = branch_holds o
kind_holds kinds.Serve o = serve_holds o
kind_holds kinds.Forge o = forge_holds o
kind_holds kinds.Replay o = replay_holds o
kind_holds kinds.Twin o = twin_holds o

line_holds : (d : Data) → Holds HasLineRanges (line_of d)
unfolding line_of
line_holds d =
    skip (an_object (codes "tamper") d) (λ o.
    skip (word (codes "kind") kind_words o) (λ kind. kind_holds kind o))

one_line_more : (before : List TamperLine) (d : Data) → All HasLineRanges before
    → Holds (λ line. All HasLineRanges (before ++ line ∷ [])) (alone line_of before d)
one_line_more before d so_far =
    weaker (line_of d) (line_holds d) (λ line ranges. All_more HasLineRanges before line so_far ranges)

pub lines_hold : (o : Data) → Holds AreLines (lines_of o)
unfolding lines_of
lines_hold o =
    weaker (list_within (codes "tamper") 0 32 o >>= λ ds. each (alone line_of) [] ds)
    (listed_at (alone line_of) (All HasLineRanges) (codes "tamper") 0 32 o (All-nil HasLineRanges) one_line_more)
    (λ tamper h. record { few = h.0.1; all = h.1 })
