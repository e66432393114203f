-- K1 for whole answer lines: the ledger's part is model's, and beside it stand the role sets.
-- Assumes nothing.
use Prim.Native.Nat.{ℕ, suc}
use mathlib.Core.Path.{◌≡◌, refl, sym, ap, ap₂, ◌∙◌, fun_ext}
use mathlib.Core.Bool.{Bool, true, false, cond, not-and_self}
use mathlib.Core.List.{List, [], ◌∷◌, ◌++◌, map}
use lib.Dec.{ltb}
use lib.ListN.{length}
use Rattle.model.specs.declared.calls.Change.TheVariants.{Assign, Withdraw, Permit, Revoke, Forward, Mandate}
use Rattle.model.specs.declared.calls.Product.{Product}
use Rattle.model.specs.declared.calls.Product.TheVariants.{Server, TermBank}
use Rattle.model.specs.declared.calls.Ask.TheVariants.{Open, Conflicting, Add, Show}
use Rattle.model.specs.declared.calls.Call.{Call}
use Rattle.model.specs.declared.calls.Call.TheVariants.{Table, Session, Read, Unreadable}
use Rattle.model.specs.Ledger.{Ledger, start, same, flow_of, reach_of, reads, reads_two_of, is_conflicting}
use Rattle.model.specs.Refusals.{due, new_flow, refusal, accepts, entered, renewed, with_flows, asked, taken, ledger_step, ledger_after}
use Rattle.model.specs.Demands.{call_at}
use Rattle.model.specs.Products.{is_of, struck, opposite, swap, ForwardsFirst}
use Rattle.model.proofs.Apart.{with_sessions, without, by_product, Early, AllEarly, early, same_refusal, same_step, other_step, start_without}
use Rattle.model.proofs.Alike.{turned, turned_refusal, turned_step}
use Rattle.protocol.specs.Specification.{M, Book, is_parent, in_role_set, sets_now, next, told, answer_line, answers, blank}
use Rattle.protocol.specs.Products.{answers_left, ProductAnswers}

book_of : Ledger → (Product → ℕ → ℕ → ℕ → ℕ → Bool) → Book
book_of l sets = record { ledger = l; sets = sets }

-- ---- a book without one product's sessions

sets_without : Product → (Product → ℕ → ℕ → ℕ → ℕ → Bool) → Product → ℕ → ℕ → ℕ → ℕ → Bool
sets_without q sets p = cond (same p q) (λ s f g r. false) (sets p)

book_without : Product → Book → Book
book_without q b = book_of (without q b.ledger) (sets_without q b.sets)

-- ---- what a call is told

same_told : (q : Product) (b : Book) (c : Call) → is_of q c ≡ false → told (book_without q b) c ≡ told b c
unfolding told book_without book_of sets_without is_of without with_sessions taken asked renewed entered due with_flows new_flow is_conflicting reads_two_of reads flow_of reach_of
same_told q b (Table (Assign u r)) h = refl
same_told q b (Table (Withdraw u r)) h = refl
same_told q b (Table (Permit r d)) h = refl
same_told q b (Table (Revoke r d)) h = refl
same_told q b (Table (Forward d e)) h = refl
same_told q b (Table (Mandate r d)) h = refl
same_told q b (Session p s Open) h = refl
same_told q b (Session p s (Conflicting d)) h = ap M (fun_ext (λ c. rw h))
same_told q b (Session p s (Add d m)) h = rw h
same_told q b (Session p s (Show f)) h = rw h
same_told q b (Read p u s f d) h = refl
same_told q b Unreadable h = refl

same_answer : (q : Product) (b : Book) (c : Call) → is_of q c ≡ false → Early b.ledger c → answer_line (book_without q b) c ≡ answer_line b c
unfolding answer_line accepts book_without book_of
same_answer q b c h k =
    let n : refusal (without q b.ledger) c ≡ refusal b.ledger c = same_refusal q b.ledger c h k in
    let t : told (book_without q b) c ≡ told b c = same_told q b c h in
    rw (n, t)

-- ---- the book after a call

-- where no flow is new the role sets stay
sets_stay : (b : Book) (now : Ledger) (p : Product) → now.flows p ≡ b.ledger.flows p → sets_now b now p ≡ b.sets p
unfolding sets_now
sets_stay b now p h = fun_ext (λ s. fun_ext (λ f. fun_ext (λ g. rw (h, not-and_self (ltb f (length (b.ledger.flows p s)))))))

sets_without_is : (q : Product) (b : Book) (now : Ledger) → sets_without q (sets_now b now) ≡ sets_now (book_without q b) (without q now)
unfolding sets_without sets_now book_without book_of without with_sessions same in_role_set is_parent flow_of
sets_without_is Server b now = by_product (sym (sets_stay (book_without Server b) (without Server now) Server refl)) refl
sets_without_is TermBank b now = by_product refl (sym (sets_stay (book_without TermBank b) (without TermBank now) TermBank refl))

same_next : (q : Product) (b : Book) (c : Call) → is_of q c ≡ false → Early b.ledger c → book_without q (next b c) ≡ next (book_without q b) c
unfolding next book_without book_of
same_next q b c h k =
    let e : without q (ledger_step b.ledger c) ≡ ledger_step (without q b.ledger) c = same_step q b.ledger c h k in
    ap₂ book_of e (sets_without_is q b (ledger_step b.ledger c) ∙ ap (sets_now (book_without q b)) e)

other_sets : (q : Product) (b : Book) (now : Ledger) → without q now ≡ without q b.ledger → sets_without q (sets_now b now) ≡ sets_without q b.sets
unfolding sets_without without with_sessions same
other_sets Server b now h = by_product refl (sets_stay b now TermBank (ap (λ (m : Ledger). m.flows TermBank) h))
other_sets TermBank b now h = by_product (sets_stay b now Server (ap (λ (m : Ledger). m.flows Server) h)) refl

other_next : (q : Product) (b : Book) (c : Call) → is_of q c ≡ true → book_without q (next b c) ≡ book_without q b
unfolding next book_without
other_next q b c h =
    let e : without q (ledger_step b.ledger c) ≡ without q b.ledger = other_step q b.ledger c h in
    ap₂ book_of e (other_sets q b (ledger_step b.ledger c) e)

-- ---- a whole list

alone : (q : Product) (b : Book) (cs : List Call) → AllEarly b.ledger cs → answers_left q b cs ≡ answers_left q (book_without q b) (struck q cs)
unfolding answers_left struck
alone q b [] k = refl
alone q b (c ∷ cs) k = go (is_of q c) refl (alone q (next b c) cs later)
  where
    first : Early b.ledger c
    first = unfold ledger_after call_at in k 0

    later : AllEarly (next b c).ledger cs
    later = unfold ledger_after call_at next in λ i. k (suc i)

    go : (o : Bool) → is_of q c ≡ o → answers_left q (next b c) cs ≡ answers_left q (book_without q (next b c)) (struck q cs)
        → cond (is_of q c) (answers_left q (next b c) cs) (answer_line b c ∷ answers_left q (next b c) cs) ≡ answers_left q (book_without q b) (cond (is_of q c) (struck q cs) (c ∷ struck q cs))
    go true e h = rw e (h ∙ ap (λ (x : Book). answers_left q x (struck q cs)) (other_next q b c e))
    go false e h =
        rw (e, e)
        (ap₂ (λ (a : List ℕ) (rest : List (List ℕ)). a ∷ rest) (sym (same_answer q b c e first)) (h ∙ ap (λ (x : Book). answers_left q x (struck q cs)) (same_next q b c e first)))

blank_without : (q : Product) → book_without q blank ≡ blank
unfolding book_without book_of blank
blank_without q = ap₂ book_of (start_without q) (none q)
  where
    none : (q : Product) → sets_without q (λ p s f g r. false) ≡ (λ p s f g r. false)
    none Server = unfold sets_without same in by_product refl refl
    none TermBank = unfold sets_without same in by_product refl refl

as_alone : (other : Product) (cs : List Call) → ForwardsFirst cs → answers_left other blank cs ≡ answers_left other blank (struck other cs)
as_alone q cs h =
    let start_early : AllEarly blank.ledger cs = unfold blank in early cs h in
    alone q blank cs start_early ∙ ap (λ (b : Book). answers_left q b (struck q cs)) (blank_without q)

apart : (other : Product) (cs ds : List Call) → struck other cs ≡ struck other ds → ForwardsFirst cs → ForwardsFirst ds → answers_left other blank cs ≡ answers_left other blank ds
apart q cs ds e h k = as_alone q cs h ∙ ap (answers_left q blank) e ∙ sym (as_alone q ds k)

-- ---- a book whose products have changed places

book_turned : Book → Book
unfolding book_of
book_turned b = book_of (turned b.ledger) (λ p. b.sets (opposite p))

turned_told : (b : Book) (c : Call) → told (book_turned b) (swap c) ≡ told b c
unfolding told book_turned book_of swap opposite turned with_sessions taken asked renewed entered due with_flows new_flow is_conflicting reads_two_of reads flow_of reach_of
turned_told b (Table (Assign u r)) = refl
turned_told b (Table (Withdraw u r)) = refl
turned_told b (Table (Permit r d)) = refl
turned_told b (Table (Revoke r d)) = refl
turned_told b (Table (Forward d e)) = refl
turned_told b (Table (Mandate r d)) = refl
turned_told b (Session Server s Open) = refl
turned_told b (Session Server s (Conflicting d)) = refl
turned_told b (Session Server s (Add d m)) = refl
turned_told b (Session Server s (Show f)) = refl
turned_told b (Session TermBank s Open) = refl
turned_told b (Session TermBank s (Conflicting d)) = refl
turned_told b (Session TermBank s (Add d m)) = refl
turned_told b (Session TermBank s (Show f)) = refl
turned_told b (Read p u s f d) = refl
turned_told b Unreadable = refl

turned_answer : (b : Book) (c : Call) → answer_line (book_turned b) (swap c) ≡ answer_line b c
unfolding answer_line accepts book_turned book_of
turned_answer b c =
    let n : refusal (turned b.ledger) (swap c) ≡ refusal b.ledger c = turned_refusal b.ledger c in
    let t : told (book_turned b) (swap c) ≡ told b c = turned_told b c in
    rw (n, t)

turned_next : (b : Book) (c : Call) → book_turned (next b c) ≡ next (book_turned b) (swap c)
unfolding next book_turned book_of
turned_next b c =
    let e : turned (ledger_step b.ledger c) ≡ ledger_step (turned b.ledger) (swap c) = turned_step b.ledger c in
    ap₂ book_of e (sets (ledger_step b.ledger c) ∙ ap (sets_now (book_turned b)) e)
  where
    sets : (now : Ledger) → (λ p. sets_now b now (opposite p)) ≡ sets_now (book_turned b) (turned now)
    sets now = unfold sets_now book_turned book_of turned with_sessions opposite in_role_set is_parent flow_of in by_product refl refl

turned_answers : (b : Book) (cs : List Call) → answers (book_turned b) (map swap cs) ≡ answers b cs
unfolding answers
turned_answers b [] = refl
turned_answers b (c ∷ cs) =
    ap₂ (λ (a rest : List ℕ). a ++ rest) (turned_answer b c) (ap (λ (x : Book). answers x (map swap cs)) (sym (turned_next b c)) ∙ turned_answers (next b c) cs)

alike : (cs : List Call) → answers blank (map swap cs) ≡ answers blank cs
unfolding book_turned book_of blank turned with_sessions start
alike cs = turned_answers blank cs

pub product_answers : ProductAnswers
product_answers = record { alike = alike; apart = apart }
