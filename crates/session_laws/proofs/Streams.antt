-- What was heard in two stretches, one after the other.
use Rattle.std.proofs.Common.{◌≡◌, ◌≢◌, ◌∙◌, ℕ, Bool, cond, List, [], ◌∷◌, ◌++◌, refl, sym, ap, append_assoc, eq-eqb, ne_eqb}
use Rattle.std.specs.Prelude.{fold, nat_eq}
use Rattle.std.specs.List.{scan, AllByRecursion}
use Rattle.std.proofs.lemmas.List.{append-nil, map-append}
use Rattle.std.proofs.lemmas.Grind.{flat_map-append, fold-append}
use Rattle.std.proofs.lemmas.List.Elements.{filter-append}
use Rattle.fr_bytes.proofs.Lists.{scan-append}
use Rattle.fr_digest.specs.Digest.{Digest}
use Rattle.session_laws.specs.Doing.{Did, Exchange, Heard, PlainClient, after, all_dids, client_of, did, did_behind, dids, exchanges_of, last, on, outcomes_of, over, stream}
use Rattle.hall_server.specs.HonestReplies.{wall_in}

-- ---- one client

pub dids-append : (d : Digest) (c : PlainClient) (xs ys : List Heard)
    → dids d c (xs ++ ys) ≡ dids d c xs ++ dids d (last d c xs) ys
dids-append d c xs ys = scan-append (after d) (did d) c xs ys

pub last-append : (d : Digest) (c : PlainClient) (xs ys : List Heard)
    → last d c (xs ++ ys) ≡ last d (last d c xs) ys
last-append d c xs ys = fold-append (after d) c xs ys

pub exchanges-append : (ds es : List Did) → exchanges_of (ds ++ es) ≡ exchanges_of ds ++ exchanges_of es
exchanges-append ds es = flat_map-append (λ (x : Did). x.exchanges) ds es

pub outcomes-append : (ds es : List Did) → outcomes_of (ds ++ es) ≡ outcomes_of ds ++ outcomes_of es
outcomes-append ds es = map-append (λ (x : Did). x.outcome) ds es

pub on-append : (wall : ℕ) (xs ys : List Exchange) → on wall (xs ++ ys) ≡ on wall xs ++ on wall ys
on-append wall xs ys = filter-append (λ (x : Exchange). nat_eq (wall_in x.request) wall) xs ys

pub over-append : (session : ℕ) (ds es : List Did) → over session (ds ++ es) ≡ over session ds ++ over session es
over-append session ds es = filter-append (λ (x : Did). nat_eq x.task.place.session session) ds es

-- ---- all clients

pub stream-append : (user : ℕ) (xs ys : List Heard) → stream user (xs ++ ys) ≡ stream user xs ++ stream user ys
stream-append user xs ys = filter-append (λ (h : Heard). nat_eq h.task.user user) xs ys

pub client-append : (d : Digest) (start : ℕ → PlainClient) (user : ℕ) (xs ys : List Heard)
    → client_of d start user (xs ++ ys) ≡ client_of d (λ (v : ℕ). client_of d start v xs) user ys
client-append d start user xs ys =
    ap (last d (start user)) (stream-append user xs ys)
    ∙ last-append d (start user) (stream user xs) (stream user ys)

-- what commands did behind others, and what they did from where those left the clients
shifted : (d : Digest) (start now : ℕ → PlainClient) (xs earlier ys : List Heard)
    → ((user : ℕ) → now user ≡ client_of d start user xs)
    → scan (λ (hs : List Heard) (h : Heard). hs ++ h ∷ []) (did_behind d start) (xs ++ earlier) ys
    ≡ scan (λ (hs : List Heard) (h : Heard). hs ++ h ∷ []) (did_behind d now) earlier ys
shifted d start now xs earlier [] e = refl
shifted d start now xs earlier (y ∷ ys) e =
    let here : client_of d start y.task.user (xs ++ earlier) ≡ client_of d now y.task.user earlier =
    client-append d start y.task.user xs earlier
    ∙ ap (λ (c : PlainClient). last d c (stream y.task.user earlier)) (sym (e y.task.user)) in
    let front : did_behind d start (xs ++ earlier) y ≡ did_behind d now earlier y =
    ap (λ (c : PlainClient). did d c y) here in
    let next : (xs ++ earlier) ++ y ∷ [] ≡ xs ++ (earlier ++ y ∷ []) = append_assoc xs earlier (y ∷ []) in
    let rest = ap (λ (hs : List Heard). scan (λ (zs : List Heard) (h : Heard). zs ++ h ∷ []) (did_behind d start) hs ys) next
    ∙ shifted d start now xs (earlier ++ y ∷ []) ys e in
    λ i. front i ∷ rest i

snoc-all : (front xs : List Heard) → fold (λ (hs : List Heard) (h : Heard). hs ++ h ∷ []) front xs ≡ front ++ xs
snoc-all front [] = sym (append-nil front)
snoc-all front (x ∷ xs) = snoc-all (front ++ x ∷ []) xs ∙ append_assoc front (x ∷ []) xs

pub all-append : (d : Digest) (start now : ℕ → PlainClient) (xs ys : List Heard)
    → ((user : ℕ) → now user ≡ client_of d start user xs)
    → all_dids d start (xs ++ ys) ≡ all_dids d start xs ++ all_dids d now ys
all-append d start now xs ys e =
    scan-append (λ (hs : List Heard) (h : Heard). hs ++ h ∷ []) (did_behind d start) [] xs ys
    ∙ ap (λ (hs : List Heard). all_dids d start xs
    ++ scan (λ (zs : List Heard) (h : Heard). zs ++ h ∷ []) (did_behind d start) hs ys)
    (snoc-all [] xs ∙ sym (append-nil xs))
    ∙ ap (λ (ds : List Did). all_dids d start xs ++ ds) (shifted d start now xs [] ys e)

-- ---- one user's commands alone

pub record AreOf (user session : ℕ) (h : Heard) : Type 0 where
  pub user_is : h.task.user ≡ user
  pub session_is : h.task.place.session ≡ session

pub stream-own : (user session : ℕ) (hs : List Heard) → AllByRecursion (AreOf user session) hs → stream user hs ≡ hs
stream-own user session [] all = refl
stream-own user session (h ∷ hs) all =
    ap (λ (b : Bool). cond b (h ∷ stream user hs) (stream user hs)) (eq-eqb h.task.user user all.0.user_is)
    ∙ ap (λ (zs : List Heard). h ∷ zs) (stream-own user session hs all.1)

pub stream-other : (user session other : ℕ) (hs : List Heard) → AllByRecursion (AreOf user session) hs → user ≢ other
    → stream other hs ≡ []
stream-other user session other [] all ne = refl
stream-other user session other (h ∷ hs) all ne =
    ap (λ (b : Bool). cond b (h ∷ stream other hs) (stream other hs))
    (ne_eqb h.task.user other (λ same. ne (sym all.0.user_is ∙ same)))
    ∙ stream-other user session other hs all.1 ne

-- behind the commands of one user that were heard before, all that its commands do is what its client does
own-dids : (d : Digest) (start : ℕ → PlainClient) (user session : ℕ) (earlier hs : List Heard)
    → AllByRecursion (AreOf user session) hs
    → scan (λ (zs : List Heard) (h : Heard). zs ++ h ∷ []) (did_behind d start) earlier hs
    ≡ dids d (client_of d start user earlier) hs
own-dids d start user session earlier [] all = refl
own-dids d start user session earlier (h ∷ hs) all =
    let u = all.0.user_is in
    let front : did_behind d start earlier h ≡ did d (client_of d start user earlier) h =
    ap (λ (v : ℕ). did d (client_of d start v earlier) h) u in
    let mine : stream user (h ∷ []) ≡ h ∷ [] =
    ap (λ (b : Bool). cond b (h ∷ []) []) (eq-eqb h.task.user user u) in
    let next : client_of d start user (earlier ++ h ∷ []) ≡ after d (client_of d start user earlier) h =
    client-append d start user earlier (h ∷ [])
    ∙ ap (last d (client_of d start user earlier)) mine in
    let rest = own-dids d start user session (earlier ++ h ∷ []) hs all.1
    ∙ ap (λ (c : PlainClient). dids d c hs) next in
    λ i. front i ∷ rest i

pub all-own : (d : Digest) (start : ℕ → PlainClient) (user session : ℕ) (hs : List Heard)
    → AllByRecursion (AreOf user session) hs → all_dids d start hs ≡ dids d (start user) hs
all-own d start user session hs all = own-dids d start user session [] hs all

over-all : (d : Digest) (c : PlainClient) (user session : ℕ) (hs : List Heard) → AllByRecursion (AreOf user session) hs
    → over session (dids d c hs) ≡ dids d c hs
over-all d c user session [] all = refl
over-all d c user session (h ∷ hs) all =
    ap (λ (b : Bool). cond b (did d c h ∷ over session (dids d (after d c h) hs)) (over session (dids d (after d c h) hs)))
    (eq-eqb h.task.place.session session all.0.session_is)
    ∙ ap (λ (ds : List Did). did d c h ∷ ds) (over-all d (after d c h) user session hs all.1)

over-none : (d : Digest) (c : PlainClient) (user session other : ℕ) (hs : List Heard)
    → AllByRecursion (AreOf user session) hs → session ≢ other → over other (dids d c hs) ≡ []
over-none d c user session other [] all ne = refl
over-none d c user session other (h ∷ hs) all ne =
    ap (λ (b : Bool). cond b (did d c h ∷ over other (dids d (after d c h) hs)) (over other (dids d (after d c h) hs)))
    (ne_eqb h.task.place.session other (λ same. ne (sym all.0.session_is ∙ same)))
    ∙ over-none d (after d c h) user session other hs all.1 ne

pub over-own : (d : Digest) (start : ℕ → PlainClient) (user session : ℕ) (hs : List Heard)
    → AllByRecursion (AreOf user session) hs → over session (all_dids d start hs) ≡ dids d (start user) hs
over-own d start user session hs all =
    ap (over session) (all-own d start user session hs all) ∙ over-all d (start user) user session hs all

pub over-other : (d : Digest) (start : ℕ → PlainClient) (user session other : ℕ) (hs : List Heard)
    → AllByRecursion (AreOf user session) hs → session ≢ other → over other (all_dids d start hs) ≡ []
over-other d start user session other hs all ne =
    ap (over other) (all-own d start user session hs all) ∙ over-none d (start user) user session other hs all ne
