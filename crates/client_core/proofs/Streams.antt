-- No two operations of clients use one stream of one key.
use Rattle.std.proofs.Common.{◌≡◌, ◌∙◌, ◌⊎◌, inl, inr, ℕ, ◌+◌, ◌^◌, ◌<◌, true, take, Some, refl, ap, sym, arith}
use Rattle.std.specs.Prelude.{find, nat_eq, slice_get}
use Rattle.std.proofs.lemmas.Bool.{cases_lt, eqb-true}
use Rattle.fr_digest.specs.Digest.{Digest}
use Rattle.op_types.specs.declared.kind.Kind.{Kind}
use Rattle.op_types.specs.declared.kind.Kind.TheVariants.{Post, Admit, Remove}
use Rattle.op_types.specs.declared.op.Op.{Op}
use Rattle.op_types.specs.Kinds.{is_change}
use Rattle.key_graph.specs.declared.change.Setting.{Setting}
use Rattle.key_graph.specs.KeyTree.{Plan}
use Rattle.key_graph.specs.Reach.{inner}
use Rattle.key_graph.specs.Streams.{Use, WrapUses}
use Rattle.key_graph.proofs.Streams.{not_root, one_generation}
use Rattle.world_book.specs.declared.book.UserBook.{UserBook}
use Rattle.world_book.specs.declared.took.Signed.{Signed}
use Rattle.world_book.specs.declared.world.World.{World}
use Rattle.world_book.specs.Kept.{Kept, KeptBook}
use Rattle.world_book.specs.Records.{Signs, keys_of}
use Rattle.world_book.proofs.Places.{each-of, find-some, take-place}
use Rattle.client_core.specs.Asking.{post_stream}
use Rattle.client_core.specs.Uses.{IsMade, KindUses, OpUses}

-- ---- author and number

-- a stream of a plan of this generation
pub record OfPlan (setting : Setting) (g : ℕ) (u : Use) : Type 0 where
  pub plan : Plan
  pub generation : plan.change.generation ≡ g
  pub place : ℕ
  pub uses : WrapUses setting plan place u

-- a stream of a root's key
pub record OfRoot (author seq : ℕ) (u : Use) : Type 0 where
  pub generation : ℕ
  pub key : u.key ≡ inner 1 generation
  pub stream : u.stream ≡ post_stream author seq

either : (setting : Setting) (author seq : ℕ) (kind : Kind) (u : Use) → KindUses setting author seq kind u
    → OfRoot author seq u ⊎ ((is_change kind ≡ true) × OfPlan setting (seq + 1) u)
either setting author seq (Post body) u uses = inl (record { generation = uses.0; key = uses.1; stream = uses.2 })
either setting author seq (Admit user role slot wraps) u uses =
    inr (refl, record { plan = uses.0; generation = uses.1.generation; place = uses.2; uses = uses.3 })
either setting author seq (Remove user slot wraps) u uses =
    inr (refl, record { plan = uses.0; generation = uses.1.generation; place = uses.2; uses = uses.3 })

module _ (setting : Setting) (of : ℕ) (u : Use) where
  posts : (a s b r : ℕ) → s < 2 ^ 32 → r < 2 ^ 32 → OfRoot a s u → OfRoot b r u → (a ≡ b) × (s ≡ r)
  posts a s b r small small' x y =
      let same : post_stream a s ≡ post_stream b r = sym x.stream ∙ y.stream in
      (omega arith, omega arith)

  plans : (s r : ℕ) → s + 1 < 2 ^ 32 → r + 1 < 2 ^ 32 → OfPlan setting (s + 1) u → OfPlan setting (r + 1) u → s ≡ r
  plans s r small small' x y =
      let p = x.generation in
      let q = y.generation in
      let same = one_generation setting x.plan y.plan x.place y.place u (omega arith) (omega arith) x.uses y.uses in
      omega arith

  never : {P : Type 0} (a s g : ℕ) → OfRoot a s u → OfPlan setting g u → P
  never a s g x y = absurd (not_root setting y.plan y.place u x.generation y.uses x.key)

  -- operations that use one stream have one author and one number
  numbers : (a s : ℕ) (k : Kind) (b r : ℕ) (l : Kind) → IsMade setting of a s k → IsMade setting of b r l
      → KindUses setting a s k u → KindUses setting b r l u → (a ≡ b) × (s ≡ r)
  numbers a s k b r l x y uses uses' = by (either setting a s k u uses) (either setting b r l u uses')
    where
      by : OfRoot a s u ⊎ ((is_change k ≡ true) × OfPlan setting (s + 1) u) → OfRoot b r u ⊎ ((is_change l
          ≡ true) × OfPlan setting (r + 1) u)
          → (a ≡ b) × (s ≡ r)
      by (inl p) (inl q) = let m = x.number in let n = y.number in posts a s b r (omega arith) (omega arith) p q
      by (inl p) (inr q) = never a s (r + 1) p q.1
      by (inr p) (inl q) = never b r (s + 1) q p.1
      by (inr p) (inr q) =
          let m = x.number in let n = y.number in
          (x.author_is p.0 ∙ sym (y.author_is q.0), plans s r (omega arith) (omega arith) p.1 q.1)

-- ---- one author's operations

module _ (d : Digest) (w : World) (kept : Kept d w) where
  its-book : (user : ℕ) (op : Op) → (signs : Signs w user op) → KeptBook d w.walls (keys_of w.users) signs.book
      × (signs.book.user ≡ user)
  its-book user op signs =
      let it = find-some (λ (b : UserBook). nat_eq b.user user) w.users signs.book signs.found in (
        each-of (KeptBook d w.walls (keys_of w.users)) w.users it.0.place signs.book kept.books it.0.there,
        eqb-true
            signs.book.user user it.1,
      )

  -- an operation is by who signed it
  by-author : (user : ℕ) (op : Op) → Signs w user op → op.author ≡ user
  by-author user op signs =
      let book = its-book user op signs in
      ap (λ (o : Op). o.author) (sym signs.same) ∙ ((book.0.signed signs.kept.place signs.signed
      signs.kept.there).author ∙ book.1)

  rises : (book : UserBook) → KeptBook d w.walls (keys_of w.users) book → (i j : ℕ) (s o : Signed) → i < j
      → slice_get book.signed i ≡ Some s
      → slice_get book.signed j ≡ Some o → s.op.wall ≡ o.op.wall → s.op.seq < o.op.seq
  rises book kept-book i j s o less at there walls =
      let it = (kept-book.signed j o there).later in
      each-of (λ (x : Signed). x.op.wall ≡ o.op.wall → x.op.seq < o.op.seq) (take j book.signed) i s it
      (take-place j book.signed i less ∙ at) walls

  in-book : (book : UserBook) → KeptBook d w.walls (keys_of w.users) book → (i j : ℕ) (s o : Signed)
      → slice_get book.signed i ≡ Some s
      → slice_get book.signed j ≡ Some o → s.op.wall ≡ o.op.wall → s.op.seq ≡ o.op.seq → s.op ≡ o.op
  in-book book kept-book i j s o at there walls numbers = elim (cases_lt i j) [
    | inl less ↦ (let up = rises book kept-book i j s o less at there walls in absurd (omega arith))
    | inr more ↦ elim (cases_lt j i) [
      | inl less ↦ (let up = rises book kept-book j i o s less there at (sym walls) in absurd (omega arith))
      | inr most ↦
          let e : i ≡ j = omega arith in
          let same : s ≡ o = let f = sym at ∙ (ap (slice_get book.signed) e ∙ there) in cc in
          ap (λ (x : Signed). x.op) same
    ]
  ]

  -- In a kept world no two operations on one wall, of one author and one number, are different.
  one-op : (user other : ℕ) (x y : Op) → Signs w user x → Signs w other y → x.wall ≡ y.wall → x.author ≡ y.author
      → x.seq ≡ y.seq → x ≡ y
  one-op user other x y a b walls authors numbers =
      let users : user ≡ other = sym (by-author user x a) ∙ (authors ∙ by-author other y b) in
      let books : a.book ≡ b.book = let f = sym a.found ∙ (ap (λ (u : ℕ). find (λ
      (b : UserBook). nat_eq b.user u) w.users) users ∙ b.found) in cc in
      let there : slice_get a.book.signed b.kept.place ≡ Some b.signed =
      ap (λ (q : UserBook). slice_get q.signed b.kept.place) books ∙ b.kept.there in
      sym a.same ∙ (in-book a.book (its-book user x a).0 a.kept.place b.kept.place a.signed b.signed a.kept.there there
      (ap (λ (o : Op). o.wall) a.same ∙ (walls ∙ ap (λ (o : Op). o.wall) (sym b.same)))
      (ap (λ (o : Op). o.seq) a.same ∙ (numbers ∙ ap (λ (o : Op). o.seq) (sym b.same)))
      ∙ b.same)

  pub one-use : (setting : Setting) (of user other : ℕ) (x y : Op) (u : Use) → Signs w user x → Signs w other y
      → x.wall ≡ y.wall
      → IsMade setting of x.author x.seq x.kind → IsMade setting of y.author y.seq y.kind → OpUses setting x u
      → OpUses setting y u → x ≡ y
  one-use setting of user other x y u a b walls made made' uses uses' =
      let same = numbers setting of u x.author x.seq x.kind y.author y.seq y.kind made made' uses uses' in
      one-op user other x y a b walls same.0 same.1
