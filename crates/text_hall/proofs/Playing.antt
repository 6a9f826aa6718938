-- One call more on a wall of texts.
use Rattle.std.proofs.Common.{◌≡◌, ℕ, List, [], ◌∷◌, ◌++◌, ap, ◌∙◌, sym}
use Rattle.std.proofs.lemmas.List.Sums.{fold-append}
use Rattle.text_hall.specs.declared.call.Call.{Call}
use Rattle.text_hall.specs.TextHall.{root_of, left_behind, left_by, play, GivesBy, LegalFrom, IsKept}

pub play_more : (texts : List (List ℕ)) (calls : List Call) (call : Call)
    → play texts (calls ++ call ∷ []) ≡ left_by (play texts calls) call
play_more texts calls call = fold-append left_by texts calls (call ∷ [])

module _ (d : List ℕ → List ℕ) (owner : ℕ) where
  legal_more : (texts : List (List ℕ)) (calls : List Call) (call : Call) → LegalFrom d owner texts calls
      → GivesBy d owner (play texts calls) call.caller call.text call.reply
      → LegalFrom d owner texts (calls ++ call ∷ [])
  legal_more texts [] call legal gives = (gives, tt)
  legal_more texts (first ∷ calls) call legal gives =
      (legal.0, legal_more (left_by texts first) calls call legal.1 gives)

  -- a hall that answers as the wall does, and keeps the root of what the answer leaves, is kept with that call
  pub kept_more : (root after : List ℕ) (calls : List Call) (call : Call) → IsKept d owner root calls
      → GivesBy d owner (play [] calls) call.caller call.text call.reply
      → after ≡ root_of d (left_behind (play [] calls) call.text call.reply)
      → IsKept d owner after (calls ++ call ∷ [])
  kept_more root after calls call kept gives same = record {
    legal = legal_more [] calls call kept.legal gives;
    same = same ∙ sym (ap (root_of d) (play_more [] calls call));
  }
