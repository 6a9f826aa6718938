-- One stretch after another, at a seat and over a wire.
use Rattle.std.proofs.Common.{◌≡◌, ◌∙◌, ℕ, ◌≤◌, Bool, List, [], ◌∷◌, ◌++◌, map, Option, Some, None, refl, sym, ap, subst, append_assoc, inl, inr, arith}
use Rattle.std.specs.List.{AllByRecursion, AllZip}
use Rattle.std.proofs.lemmas.List.{append-nil, map-append}
use Rattle.std.proofs.lemmas.Grind.{fold-append}
use Rattle.fr_bytes.proofs.HistoryLaws.{begins_itself, begins_then}
use Rattle.fr_bytes.proofs.Lists.{allzip-append, each-append}
use Rattle.fr_digest.specs.Digest.{Digest}
use Rattle.fr_edges.specs.declared.wire.Carried.{Carried}
use Rattle.fr_edges.specs.Faults.{Rose}
use Rattle.fr_edges.specs.Sink.{with_more}
use Rattle.fr_edges.specs.Wire.{WireView}
use Rattle.op_types.specs.declared.op.Leaf.{Leaf}
use Rattle.hall_core.specs.declared.facts.WallFacts.{WallFacts}
use Rattle.hall_core.specs.Calls.{Turn, turns}
use Rattle.session_laws.specs.Doing.{Exchange}
use Rattle.hall_server.specs.Sights.{Sight}
use Rattle.session_laws.specs.Halves.{Counts, Delivery, SeatHalf, Serves, WireHalf, last_left}

-- ---- seats

pub seat-nothing : (d : Digest) (user : ℕ) (s : Sight) → SeatHalf d user s s []
seat-nothing d user s = record {
  kept = refl;
  begins = begins_itself s.front;
  news = [];
  turned = sym (append-nil (turns d s.facts user s.front));
  served = tt;
  shown = refl;
}

pub seat-then : (d : Digest) (user : ℕ) (a b c : Sight) (xs ys : List Exchange) → SeatHalf d user a b xs
    → SeatHalf d user b c ys → SeatHalf d user a c (xs ++ ys)
seat-then d user a b c xs ys p q = record {
  kept = q.kept ∙ p.kept;
  begins = begins_then a.front b.front c.front p.begins q.begins;
  news = p.news ++ q.news;
  turned =
      subst (λ (f : WallFacts). turns d f user c.front ≡ turns d f user b.front ++ q.news) p.kept q.turned
      ∙ ap (λ (ts : List Turn). ts ++ q.news) p.turned
      ∙ append_assoc (turns d a.facts user a.front) p.news q.news;
  served = allzip-append (Serves d a.facts) xs p.news ys q.news p.served
      (subst (λ (f : WallFacts). AllZip (Serves d f) ys q.news) p.kept q.served);
  shown = q.shown ∙ ap (λ (leaves : List Leaf). last_left leaves q.news) p.shown
      ∙ sym (fold-append (λ (leaves : List Leaf) (t : Turn). t.left) a.leaves p.news q.news);
}

-- ---- wires

more-more : {A : Type 0} (told : Option (List A)) (xs ys : List A)
    → with_more (with_more told xs) ys ≡ with_more told (xs ++ ys)
more-more None xs ys = refl
more-more {A = A} (Some zs) xs ys = ap (λ (ws : List A). Some ws) (append_assoc zs xs ys)

nothing-more : {A : Type 0} (told : Option (List A)) → told ≡ with_more told []
nothing-more None = refl
nothing-more {A = A} (Some zs) = ap (λ (ws : List A). Some ws) (sym (append-nil zs))

rose-from : (a b c : ℕ) → a ≤ b → Rose b c → Rose a c
rose-from a b c le (inl lt) = inl (omega arith)
rose-from a b c le (inr end) = inr end

counts-from : (a b c : ℕ) (ys : List Exchange) → a ≤ b → Counts b ys c → Counts a ys c
counts-from a b c [] le h = omega arith
counts-from a b c (y ∷ ys) le h = (omega (arith, h.0), λ none. rose-from a b y.faults le (h.1 none), h.2)

counts-then : (a b c : ℕ) (xs ys : List Exchange) → Counts a xs b → Counts b ys c → Counts a (xs ++ ys) c
counts-then a b c [] ys p q = counts-from a b c ys p q
counts-then a b c (x ∷ xs) ys p q = (p.0, p.1, counts-then x.faults b c xs ys p.2 q)

pub wire-nothing : (w : WireView) → WireHalf w w []
wire-nothing w = record {
  straight = refl;
  carried = nothing-more w.carried;
  through = tt;
  counted = omega arith;
}

pub wire-then : (a b c : WireView) (xs ys : List Exchange) → WireHalf a b xs → WireHalf b c ys
    → WireHalf a c (xs ++ ys)
wire-then a b c xs ys p q =
    let carried-of = λ (x : Exchange). x.carried in
    record {
      straight = q.straight ∙ p.straight;
      carried =
          q.carried ∙ ap (λ (t : Option (List Carried)). with_more t (map carried-of ys)) p.carried
          ∙ more-more a.carried (map carried-of xs) (map carried-of ys)
          ∙ ap (with_more a.carried) (sym (map-append carried-of xs ys));
      through = each-append (Delivery a.straight) xs ys p.through
          (subst (λ (s : Bool). AllByRecursion (Delivery s) ys) p.straight q.through);
      counted = counts-then a.faults b.faults c.faults xs ys p.counted q.counted;
    }
