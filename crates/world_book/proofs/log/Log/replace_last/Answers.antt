use Rattle.std.proofs.Common.{◌≡◌, ◌∙◌, ℕ, ◌+◌, ◌-◌, List, [], ◌∷◌, ◌++◌, length, set, refl, ap, sym, arith, length-append}
use Rattle.world_book.proofs.log.Log.replace_last.Goals as goal

set-end : {A : Type 0} (front : List A) (last v : A) → set (front ++ last ∷ []) (length front) v ≡ front ++ v ∷ []
set-end [] last v = refl
set-end {A} (x ∷ front) last v = ap (λ (xs : List A). x ∷ xs) (set-end front last v)

set-last : {A : Type 0} (xs front : List A) (last v : A) (n : ℕ) → xs ≡ front ++ last ∷ [] → n ≡ length xs → set xs (n - 1) v ≡ front ++ v ∷ []
set-last {A} xs front last v n e h =
    let long : length (front ++ last ∷ []) ≡ length front + 1 = length-append front (last ∷ []) in
    let at : n - 1 ≡ length front = let same = ap length e in omega arith in
    ap (λ (k : ℕ). set xs k v) at ∙ (ap (λ (ys : List A). set ys (length front) v) e ∙ set-end front last v)

pub returns-then-count-gt0-clause-last : goal.returns-then-count-gt0-clause-last
returns-then-count-gt0-clause-last g c = λ front last e.
    set-last c.self.inside.items.items front last c.args.value c.len-count.result (c.self.view_is ∙ e) (omega arith)
