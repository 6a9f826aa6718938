use Rattle.std.proofs.Common.{◌≡◌, ◌∙◌, ℕ, zero, suc, List, [], ◌∷◌, refl, sym, ap, drop}
use Rattle.tree_model.specs.declared.entry.Entry.{Entry}
use Rattle.tree_model.proofs.AccessLists.{greater-drop, rising-drop, rising-take, smaller-take}
use Rattle.tree_extract.proofs.dicts.around.Goals as goal

behind : (k : ℕ) (es : List Entry) → drop 1 (drop k es) ≡ drop (suc k) es
behind zero es = refl
behind (suc k) [] = refl
behind (suc k) (e ∷ es) = behind k es

pub returns-clause-smaller : goal.returns-clause-smaller
returns-clause-smaller c =
    c.split_at.ensures.front
    ∙ sym (smaller-take c.args.entries.now c.top_in-place.result.0 c.top_in-place.result.1 c.requires.rising c.top_in-place.ensures.place)

pub returns-clause-greater : goal.returns-clause-greater
returns-clause-greater c =
    c.split_at-2.ensures.back
    ∙ ap (λ (es : List Entry). drop 1 es) c.split_at.ensures.back
    ∙ behind c.top_in-place.result.0 c.args.entries.now
    ∙ sym (greater-drop c.args.entries.now c.top_in-place.result.0 c.top_in-place.result.1 c.requires.rising c.top_in-place.ensures.place)

pub returns-clause-rising_smaller : goal.returns-clause-rising_smaller
returns-clause-rising_smaller c =
    rw c.split_at.ensures.front (rising-take c.top_in-place.result.0 c.args.entries.now c.requires.rising)

pub returns-clause-rising_greater : goal.returns-clause-rising_greater
returns-clause-rising_greater c =
    rw (c.split_at-2.ensures.back, c.split_at.ensures.back)
    (rising-drop 1 _ (rising-drop c.top_in-place.result.0 c.args.entries.now c.requires.rising))
