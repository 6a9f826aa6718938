-- From the matches of the words to what they ask for.
use Rattle.std.proofs.Common.{◌≡◌, ◌∙◌, List, ℕ, codes, Ok, Err, Option, ap, subst, inr}
use Rattle.std.specs.Prelude.{Result}
use Rattle.clap.proofs.WalkLemmas.{first_value-rows}
use Rattle.clap.specs.Words.{first_of, first_value, found_of}
use Rattle.clap.specs.declared.parser.matches.ArgMatches.{ArgMatches}
use Rattle.fr_bytes.specs.declared.refusals.ReadRefusal.{ReadRefusal}
use Rattle.fr_bytes.specs.declared.refusals.ReadRefusal.TheVariants as refusals
use Rattle.frient_words.specs.declared.words.Wish.{Wish}
use Rattle.frient_words.specs.Words.{IsAsked, IsNoNumber, Matches, Reads, Wishes, number_text}

same_text : (words : List (List ℕ)) (m : ArgMatches) (h : Matches words (Ok m))
    → first_value (found_of m) (codes "number") ≡ number_text h.0 words
same_text words m h = first_value-rows (found_of m) (codes "number") ∙ ap (first_of (codes "number")) h.3

pub asks : (words : List (List ℕ)) (m : ArgMatches) (r : Result Wish ReadRefusal) → Matches words (Ok m)
    → Wishes (first_value (found_of m) (codes "number")) r → Reads words r
asks words m (Ok wish) h w = record {
  parser = h.0;
  run = h.1;
  faultless = h.2;
  asked = subst (λ (t : Option (List ℕ)). IsAsked t wish) (same_text words m h) w;
}
asks words m (Err refusals.NotForm) h w = record {
  parser = h.0;
  run = h.1;
  fault = inr (subst IsNoNumber (same_text words m h) w);
}
asks words m (Err refusals.NoMemory) h w = tt
