-- The texts on a wall, and the calls that are answered as the wall answers them.
use Rattle.std.specs.Prelude.{◌≡◌, ◌⊎◌, ◌<◌, ℕ, List, [], ◌∷◌, ◌++◌, length, fold}
use Rattle.fr_digest.specs.Digest.{tagged_string}
use Rattle.text_hall.specs.declared.call.Call.{Call}
use Rattle.text_hall.specs.declared.call.Reply.{Reply}
use Rattle.text_hall.specs.declared.call.Reply.TheVariants.{Placed, Refused}

-- the root of texts: each text's digest under the root of those before it, from the digest of nothing on
abbrev pub root_after : (List ℕ → List ℕ) → List ℕ → List ℕ → List ℕ
root_after d root text = d (tagged_string 1 root text)

abbrev pub root_of : (List ℕ → List ℕ) → List (List ℕ) → List ℕ
root_of d texts = fold (root_after d) (d []) texts

-- an empty text is the owner's alone
abbrev pub MayWrite : ℕ → ℕ → List ℕ → Type 0
MayWrite owner caller text = (caller ≡ owner) ⊎ (0 < length text)

-- what a reply leaves on the wall
abbrev pub left_behind : List (List ℕ) → List ℕ → Reply → List (List ℕ)
left_behind texts text (Placed root) = texts ++ text ∷ []
left_behind texts text Refused = texts

abbrev pub left_by : List (List ℕ) → Call → List (List ℕ)
left_by texts call = left_behind texts call.text call.reply

-- the texts at the end of calls
abbrev pub play : List (List ℕ) → List Call → List (List ℕ)
play texts calls = fold left_by texts calls

module _ (d : List ℕ → List ℕ) (owner : ℕ) where
  -- the reply is the wall's to this text
  abbrev pub GivesBy : List (List ℕ) → ℕ → List ℕ → Reply → Type 0
  GivesBy texts caller text (Placed root) = MayWrite owner caller text × (root ≡ root_of d (texts ++ text ∷ []))
  GivesBy texts caller text Refused = MayWrite owner caller text → ⊥

  -- each call is answered as the wall answers it
  abbrev pub LegalFrom : List (List ℕ) → List Call → Type 0
  LegalFrom texts [] = Unit {0}
  LegalFrom texts (call ∷ calls) = GivesBy texts call.caller call.text call.reply × LegalFrom (left_by texts call) calls

  -- what a hall keeps: its calls are legal, and its root is that of the texts which they left
  pub record IsKept (root : List ℕ) (calls : List Call) : Type 0 where
    pub legal : LegalFrom [] calls
    pub same : root ≡ root_of d (play [] calls)
