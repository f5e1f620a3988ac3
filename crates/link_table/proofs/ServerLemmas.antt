-- Links whose servers stand.
use Rattle.std.proofs.Common.{◌≡◌, ◌≤◌, ◌+◌, ℕ, suc, length, arith, List, [], ◌∷◌, ◌++◌, Bool, true, false, not, cond, ◌&&◌, ◌||◌, ◌==◌, refl, sym, ap, subst, ◌∙◌, true≢false}
use Rattle.std.specs.Cmp.{nat_eq_equiv}
use Rattle.std.specs.List.{filter, list_all, list_any}
use Rattle.std.proofs.lemmas.Bool.{eqb-true, or_left, or_right}
use Rattle.std.proofs.lemmas.List.Folds.{list_any-append, list_all-append}
use Rattle.rows.specs.Rows.{change_first}
use Rattle.row_index.proofs.Once.{none_pass, passing_fewer, passing_more}
use Rattle.link_table.specs.declared.links.LinkRow.{LinkRow}
use Rattle.link_table.specs.declared.servers.Server.{Server}
use Rattle.link_table.specs.Links.{is_link, is_not_of, is_of}
use Rattle.link_table.specs.Numbers.{is_of_cid}
use Rattle.link_table.specs.Servers.{is_not_server, is_on_one, is_server, with_minor, HasNumbersApart, HaveServers}

both : (a b : Bool) → (a && b) ≡ true → (a ≡ true) × (b ≡ true)
both true b is = (refl, is)
both false b is = absurd (true≢false (sym is))

module _ {A : Type 0} where
  all_so : (p q : A → Bool) → ((x : A) → p x ≡ true → q x ≡ true) → (xs : List A) → list_all p xs ≡ true → list_all q xs ≡ true
  all_so p q so [] all = refl
  all_so p q so (x ∷ xs) all =
      let parts = both (p x) (list_all p xs) all in
      (λ i. so x parts.0 i && all_so p q so xs parts.1 i)

  any_so : (p q : A → Bool) → ((x : A) → p x ≡ true → q x ≡ true) → (xs : List A) → list_any p xs ≡ true → list_any q xs ≡ true
  any_so p q so [] any = any
  any_so p q so (x ∷ xs) any = by (p x) refl any (λ later. any_so p q so xs later)
    where
      by : (is : Bool) → p x ≡ is → (is || list_any p xs) ≡ true → (list_any p xs ≡ true → list_any q xs ≡ true) → (q x || list_any q xs) ≡ true
      by true is any rest = or_left (q x) (list_any q xs) (so x is)
      by false is any rest = or_right (q x) (list_any q xs) (rest any)

  -- what holds where any passes
  any_gives : (p : A → Bool) (b : Bool) → ((x : A) → p x ≡ true → b ≡ true) → (xs : List A) → list_any p xs ≡ true → b ≡ true
  any_gives p b so [] any = absurd (true≢false (sym any))
  any_gives p b so (x ∷ xs) any = by (p x) refl any (λ later. any_gives p b so xs later)
    where
      by : (is : Bool) → p x ≡ is → (is || list_any p xs) ≡ true → (list_any p xs ≡ true → b ≡ true) → b ≡ true
      by true is any rest = so x is
      by false is any rest = rest any

  all_kept : (p q : A → Bool) (xs : List A) → list_all p xs ≡ true → list_all p (filter q xs) ≡ true
  all_kept p q [] all = refl
  all_kept p q (x ∷ xs) all =
      let parts = both (p x) (list_all p xs) all in
      let rest = all_kept p q xs parts.1 in
      elim (q x) as (λ t. list_all p (cond t (x ∷ filter q xs) (filter q xs)) ≡ true) [ true ↦ (λ i. parts.0 i && rest i) | false ↦ rest ]

  all_changed : (p q : A → Bool) (f : A → A) → ((x : A) → p (f x) ≡ p x) → (xs : List A) → list_all p (change_first q f xs) ≡ list_all p xs
  all_changed p q f same [] = refl
  all_changed p q f same (x ∷ xs) =
      elim (q x) as (λ t. list_all p (cond t (f x ∷ xs) (x ∷ change_first q f xs)) ≡ list_all p (x ∷ xs))
      [ true ↦ ap (λ t. t && list_all p xs) (same x) | false ↦ ap (λ t. p x && t) (all_changed p q f same xs) ]

  any_changed : (p q : A → Bool) (f : A → A) → ((x : A) → p (f x) ≡ p x) → (xs : List A) → list_any p (change_first q f xs) ≡ list_any p xs
  any_changed p q f same [] = refl
  any_changed p q f same (x ∷ xs) =
      elim (q x) as (λ t. list_any p (cond t (f x ∷ xs) (x ∷ change_first q f xs)) ≡ list_any p (x ∷ xs))
      [ true ↦ ap (λ t. t || list_any p xs) (same x) | false ↦ ap (λ t. p x || t) (any_changed p q f same xs) ]

  -- one that passes stays where only others go
  any_kept : (p q : A → Bool) → ((x : A) → p x ≡ true → q x ≡ true) → (xs : List A) → list_any p xs ≡ true → list_any p (filter q xs) ≡ true
  any_kept p q stays [] any = any
  any_kept p q stays (x ∷ xs) any = by (p x) (q x) refl refl any (λ later. any_kept p q stays xs later)
    where
      by : (is kept : Bool) → p x ≡ is → q x ≡ kept → (is || list_any p xs) ≡ true → (list_any p xs ≡ true → list_any p (filter q xs) ≡ true)
          → list_any p (cond kept (x ∷ filter q xs) (filter q xs)) ≡ true
      by true true is kept any rest = or_left (p x) (list_any p (filter q xs)) is
      by true false is kept any rest = absurd (true≢false (sym (stays x is) ∙ kept))
      by false true is kept any rest = or_right (p x) (list_any p (filter q xs)) (rest any)
      by false false is kept any rest = rest any

-- ---- numbers of servers

module _ {A : Type 0} (p q : A → Bool) (f : A → A) (same : (x : A) → p (f x) ≡ p x) where
  as_long : (x y : A) (xs : List A) (b : Bool) → length (cond b (x ∷ xs) xs) ≡ length (cond b (y ∷ xs) xs)
  as_long x y xs true = refl
  as_long x y xs false = refl

  passing_changed : (xs : List A) → length (filter p (change_first q f xs)) ≡ length (filter p xs)
  passing_changed [] = refl
  passing_changed (x ∷ xs) =
      let rest = passing_changed xs in
      elim (q x) as (λ t. length (filter p (cond t (f x ∷ xs) (x ∷ change_first q f xs))) ≡ length (filter p (x ∷ xs))) [
        | true ↦ ap (λ t. length (cond t (f x ∷ filter p xs) (filter p xs))) (same x) ∙ as_long (f x) x (filter p xs) (p x)
        | false ↦ elim (p x) as (λ t. length (cond t (x ∷ filter p (change_first q f xs)) (filter p (change_first q f xs))) ≡ length (cond t (x ∷ filter p xs) (filter p xs)))
            [ true ↦ ap suc rest | false ↦ rest ]
      ]

-- one more has a number of its own where none of that number stood
pub numbers_more : (apart : Bool) (servers : List Server) (server : Server) (stands : Bool) → HasNumbersApart apart servers → stands ≡ list_any (is_server server.number) servers
    → HasNumbersApart (apart && not stands) (servers ++ server ∷ [])
numbers_more false servers server stands have is t number = cc
numbers_more true servers server true have is t number = cc
numbers_more true servers server false have is t number = by (server.number == number) refl (passing_more (is_server number) servers server)
  where
    by : (alike : Bool) → (server.number == number) ≡ alike
        → length (filter (is_server number) (servers ++ server ∷ [])) ≡ length (filter (is_server number) servers) + cond (server.number == number) 1 0
        → length (filter (is_server number) (servers ++ server ∷ [])) ≤ 1
    by true alike more =
        let none = none_pass (is_server server.number) servers (sym is) in
        let here : length (filter (is_server number) servers) ≡ 0 = subst (λ n. length (filter (is_server n) servers) ≡ 0) (eqb-true server.number number alike) none in
        let one : ◌≡◌ {A = ℕ} (cond (server.number == number) 1 0) 1 = ap (λ t. cond t 1 0) alike in
        omega (arith, more, here, one)
    by false alike more =
        let few = have t number in
        let none : ◌≡◌ {A = ℕ} (cond (server.number == number) 1 0) 0 = ap (λ t. cond t 1 0) alike in
        omega (arith, more, few, none)

pub numbers_put : (apart : Bool) (servers : List Server) (number minor : ℕ) → HasNumbersApart apart servers → HasNumbersApart apart (change_first (is_server number) (with_minor minor) servers)
numbers_put apart servers number minor have t other =
    let same = passing_changed (is_server other) (is_server number) (with_minor minor) (λ server. refl) servers in
    let few = have t other in
    omega (arith, same, few)

pub numbers_fewer : (apart : Bool) (servers : List Server) (number : ℕ) → HasNumbersApart apart servers → HasNumbersApart apart (filter (is_not_server number) servers)
numbers_fewer apart servers number have t other =
    let less = passing_fewer (is_server other) (is_not_server number) servers in
    let few = have t other in
    omega (arith, less, few)

-- a server more
pub servers_more : (servers : List Server) (server : Server) (links : List LinkRow) → HaveServers servers links → HaveServers (servers ++ server ∷ []) links
servers_more servers server links have =
    all_so (is_on_one servers) (is_on_one (servers ++ server ∷ []))
    (λ link on. list_any-append (is_server link.server) servers (server ∷ []) ∙ or_left (list_any (is_server link.server) servers) (list_any (is_server link.server) (server ∷ [])) on) links have

-- a server with another minor version
pub servers_put : (servers : List Server) (number minor : ℕ) (links : List LinkRow) → HaveServers servers links → HaveServers (change_first (is_server number) (with_minor minor) servers) links
servers_put servers number minor links have =
    all_so (is_on_one servers) (is_on_one (change_first (is_server number) (with_minor minor) servers))
    (λ link on. any_changed (is_server link.server) (is_server number) (with_minor minor) (λ server. refl) servers ∙ on) links have

-- a link more, whose server stands
pub links_more : (servers : List Server) (links : List LinkRow) (link : LinkRow) → list_any (is_server link.server) servers ≡ true → HaveServers servers links → HaveServers servers (links ++ link ∷ [])
links_more servers links link stands have =
    list_all-append (is_on_one servers) links (link ∷ []) ∙ (λ i. have i && (stands i && true))

-- a link that changes, but not its server
pub links_put : (servers : List Server) (links : List LinkRow) (p : LinkRow → Bool) (f : LinkRow → LinkRow) → ((link : LinkRow) → is_on_one servers (f link) ≡ is_on_one servers link) → HaveServers servers links → HaveServers servers (change_first p f links)
links_put servers links p f same have = all_changed (is_on_one servers) p f same links ∙ have

-- some of the links
pub links_fewer : (servers : List Server) (links : List LinkRow) (q : LinkRow → Bool) → HaveServers servers links → HaveServers servers (filter q links)
links_fewer servers links q have = all_kept (is_on_one servers) q links have

-- a server goes with its links
pub servers_fewer : (servers : List Server) (number : ℕ) (links : List LinkRow) → HaveServers servers links → HaveServers (filter (is_not_server number) servers) (filter (is_not_of number) links)
servers_fewer servers number [] have = refl
servers_fewer servers number (link ∷ links) have =
    let parts = both (is_on_one servers link) (list_all (is_on_one servers) links) have in
    by (link.server == number) refl parts.0 (servers_fewer servers number links parts.1)
  where
    by : (gone : Bool) → (link.server == number) ≡ gone → is_on_one servers link ≡ true → HaveServers (filter (is_not_server number) servers) (filter (is_not_of number) links)
        → HaveServers (filter (is_not_server number) servers) (cond (not gone) (link ∷ filter (is_not_of number) links) (filter (is_not_of number) links))
    by true gone on rest = rest
    by false other on rest =
        (λ i. any_kept (is_server link.server) (is_not_server number)
        (λ server is. ap not (ap (λ n. n == number) (eqb-true server.number link.server is) ∙ other)) servers on i && rest i)

-- ---- links of a number, looked for server by server

same_answer : (a b : Bool) → (a ≡ true → b ≡ true) → (b ≡ true → a ≡ true) → a ≡ b
same_answer true b there back = sym (there refl)
same_answer false true there back = back refl
same_answer false false there back = refl

abbrev has_link_of : List LinkRow → ℕ → Server → Bool
has_link_of links cid server = list_any (is_link server.number cid) links

walked : (servers : List Server) (cid : ℕ) (links : List LinkRow) → HaveServers servers links → list_any (is_of_cid cid) links ≡ true → list_any (has_link_of links cid) servers ≡ true
walked servers cid [] have any = absurd (true≢false (sym any))
walked servers cid (link ∷ links) have any =
    let parts = both (is_on_one servers link) (list_all (is_on_one servers) links) have in
    by (link.cid == cid) refl any parts.0 (λ later. walked servers cid links parts.1 later)
  where
    by : (is : Bool) → (link.cid == cid) ≡ is → (is || list_any (is_of_cid cid) links) ≡ true → is_on_one servers link ≡ true
        → (list_any (is_of_cid cid) links ≡ true → list_any (has_link_of links cid) servers ≡ true) → list_any (has_link_of (link ∷ links) cid) servers ≡ true
    by true is any on rest =
        any_so (is_server link.server) (has_link_of (link ∷ links) cid)
        (λ server of. or_left (is_link server.number cid link) (list_any (is_link server.number cid) links) (λ i. (nat_eq_equiv.symm link.server server.number ∙ of) i && is i)) servers on
    by false is any on rest =
        any_so (has_link_of links cid) (has_link_of (link ∷ links) cid)
        (λ server there. or_right (is_link server.number cid link) (list_any (is_link server.number cid) links) there) servers (rest any)

-- a link has a number where one of a server that stands does
pub cids_known : (servers : List Server) (cid : ℕ) (links : List LinkRow) → HaveServers servers links → list_any (λ server. list_any (is_link server.number cid) links) servers ≡ list_any (is_of_cid cid) links
cids_known servers cid links have =
    same_answer (list_any (has_link_of links cid) servers) (list_any (is_of_cid cid) links)
    (λ any.
    any_gives (has_link_of links cid) (list_any (is_of_cid cid) links)
    (λ server there. any_so (is_link server.number cid) (is_of_cid cid) (λ link is. (both (is_of server.number link) (link.cid == cid) is).1) links there) servers any)
    (walked servers cid links have)
