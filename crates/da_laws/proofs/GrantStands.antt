-- What a grant stands on.
use Rattle.std.proofs.Common.{◌≡◌, refl, sym, ◌∙◌, ap, subst, Option, Some, None, ℕ, Bool, true, false, cond, not, ◌&&◌, ◌==◌, nat_le, bytes_eq, option_map, option_and_then}
use Rattle.std.proofs.lemmas.Option.{none-some, same_Some}
use Rattle.std.proofs.lemmas.Bool.{eqb-true}
use Rattle.std.proofs.lemmas.Slice.Eq.{bytes_eq-Decides}
use Rattle.da_base.specs.Words.{Bytes, later, nth}
use Rattle.da_userdb.specs.declared.database.Lookup.{Lookup}
use Rattle.da_tables.proofs.Cases.{and_first, and_second, at_most, not_true}
use Rattle.da_tables.proofs.Rows.{first_passes, mapped_value, passing}
use Rattle.da_laws.proofs.WhatTestsSay.{chained}
use Rattle.da_request.specs.Attempts.{vars_for}
use Rattle.da_tables.specs.Connections.{has_pid, request_number}
use Rattle.da_laws.specs.GrantLaws.{StandsOn, GrantsStand}
use Rattle.da_tables.specs.Connections.{is_used, connection_with}
use Rattle.da_request.specs.Requests.{is_fresh, lookup_with}
use Rattle.da_lines.specs.Grants.{usable_login, grant_for, grant_on, granted}
use Rattle.da_request.specs.Requests.{decision}
use Rattle.da_tables.specs.Tables.{is_client}
use Rattle.da_request.specs.Requests.{is_of}
use Rattle.da_settings.specs.declared.settings.Settings.{Settings}
use Rattle.da_request.specs.declared.request.Body.{Body}
use Rattle.da_request.specs.declared.request.Body.TheVariants.{Authenticates, LooksUp}
use Rattle.da_tables.specs.declared.connections.Connection.{Connection}
use Rattle.da_request.specs.declared.stages.Decision.{Decision}
use Rattle.da_request.specs.declared.stages.Decision.TheVariants.{Success, Failure, UserGiven, UserUnknown, UserFailure}
use Rattle.da_request.specs.declared.request.Grant.{Grant}
use Rattle.da_request.specs.declared.request.Request.{Request}
use Rattle.da_tables.specs.declared.tables.Tables.{Tables}

cond_gives : {A : Type 0} (b : Bool) (x : Option A) (y : A) → cond b x None ≡ Some y → (b ≡ true) × (x ≡ Some y)
cond_gives true x y e = (refl, e)
cond_gives false x y e = absurd (none-some y e)

-- ---- the login that a lookup is for

pub record IsLogin (d : Decision) (lookup : Lookup) : Type 0 where
  pub last : Option Bytes
  pub is : d ≡ Success lookup.user lookup.passdb_fields last

login_of : (b : Body) (d : Decision) (lookup : Lookup) → lookup_with b d ≡ Some lookup → IsLogin d lookup
login_of (LooksUp grant) d lookup e = absurd (none-some lookup e)
login_of (Authenticates mech params resp texts) (Success user fields last) lookup e =
    let made : Lookup = record { user = user; passdb_fields = fields; vars = vars_for user params } in
    let same : made ≡ lookup = same_Some made lookup e in
    record { last = last; is = ap (λ (l : Lookup). Success l.user l.passdb_fields last) same }
login_of (Authenticates mech params resp texts) (Failure user authz temp disabled code reason) lookup e = absurd (none-some lookup e)
login_of (Authenticates mech params resp texts) (UserGiven user fields) lookup e = absurd (none-some lookup e)
login_of (Authenticates mech params resp texts) UserUnknown lookup e = absurd (none-some lookup e)
login_of (Authenticates mech params resp texts) UserFailure lookup e = absurd (none-some lookup e)

-- ---- a grant, from its connection down to its login

module _ (settings : Settings) (moment : ℕ) (tables : Tables) (pid client : ℕ) (cookie : Bytes) (grant : Grant) where
  login_stands : (conn : ℕ) (c : Connection) → nth tables.connections conn ≡ Some c → has_pid pid c ≡ true → bytes_eq c.cookie cookie ≡ true →
      (number : ℕ) (r : Request) → nth tables.requests number ≡ Some r → (is_of conn r && (r.id == client)) ≡ true → usable_login settings moment tables number r ≡ Some grant → StandsOn settings moment tables pid client cookie grant
  login_stands conn c here has same number r made mine e =
      let both : ((is_fresh moment r && not (is_used tables number)) ≡ true) × (option_map (λ lookup. let g : Grant = record { request = number; lookup = lookup } in g) (option_and_then (lookup_with r.body) (decision settings r)) ≡ Some grant) =
      cond_gives (is_fresh moment r && not (is_used tables number)) _ grant e in
      let found : (l : Lookup) × (option_and_then (lookup_with r.body) (decision settings r) ≡ Some l) × (grant ≡ record { request = number; lookup = l }) =
      mapped_value (λ (l : Lookup). let g : Grant = record { request = number; lookup = l } in g) _ grant both.1 in
      let decided : (d : Decision) × (decision settings r ≡ Some d) × (lookup_with r.body d ≡ Some found.0) =
      chained (lookup_with r.body) (decision settings r) found.0 found.1 in
      let login : IsLogin decided.0 found.0 = login_of r.body decided.0 found.0 decided.2 in
      let replied : (t : ℕ) × (r.replied ≡ Some t) × (nat_le moment (later t 150000) ≡ true) =
      passing (λ t. nat_le moment (later t 150000)) r.replied (and_second (not r.is_cancelled) _ (and_first (is_fresh moment r) _ both.0)) in
      let number_is : number ≡ grant.request = ap (λ (g : Grant). g.request) (sym found.2) in
      let lookup_is : found.0 ≡ grant.lookup = ap (λ (g : Grant). g.lookup) (sym found.2) in
      let process : (p : ℕ) × (c.pid ≡ Some p) × ((p == pid) ≡ true) = passing (λ p. p == pid) c.pid (and_second (is_client c.kind && c.is_open) _ has) in
      record {
        conn = conn;
        connection = c;
        is_there = here;
        is_client = and_first (is_client c.kind) _ (and_first (is_client c.kind && c.is_open) _ has);
        is_connected = and_second (is_client c.kind) _ (and_first (is_client c.kind && c.is_open) _ has);
        has_pid = process.1 ∙ ap (λ p. Some p) (eqb-true process.0 pid process.2);
        has_cookie = (bytes_eq-Decides c.cookie cookie).0 same;
        login = r;
        is_made = subst (λ n. nth tables.requests n ≡ Some r) number_is made;
        is_on = eqb-true r.conn conn (and_first (is_of conn r) _ mine);
        has_id = eqb-true r.id client (and_second (is_of conn r) _ mine);
        replied = replied.0;
        is_replied = replied.1;
        in_time = at_most moment (later replied.0 150000) replied.2;
        is_not_cancelled = not_true r.is_cancelled (and_first (not r.is_cancelled) _ (and_first (is_fresh moment r) _ both.0));
        is_unused = subst (λ n. is_used tables n ≡ false) number_is (not_true (is_used tables number) (and_second (is_fresh moment r) _ both.0));
        last = login.last;
        is_okay = decided.1 ∙ ap (λ d. Some d) login.is ∙ ap (λ (l : Lookup). Some (Success l.user l.passdb_fields login.last)) lookup_is;
      }

  request_stands : (conn : ℕ) (c : Connection) → nth tables.connections conn ≡ Some c → has_pid pid c ≡ true → bytes_eq c.cookie cookie ≡ true →
      (o : Option Request) → nth tables.requests (request_number tables conn client) ≡ o → grant_for settings moment tables (request_number tables conn client) o ≡ Some grant → StandsOn settings moment tables pid client cookie grant
  request_stands conn c here has same None made e = absurd (none-some grant e)
  request_stands conn c here has same (Some r) made e =
      login_stands conn c here has same (request_number tables conn client) r made (first_passes (λ q. is_of conn q && (q.id == client)) tables.requests r made) e

  connection_stands : (o : Option Connection) → nth tables.connections (connection_with tables pid) ≡ o → grant_on settings moment tables client cookie (connection_with tables pid) o ≡ Some grant → StandsOn settings moment tables pid client cookie grant
  connection_stands None here e = absurd (none-some grant e)
  connection_stands (Some c) here e =
      let both : (bytes_eq c.cookie cookie ≡ true) × (grant_for settings moment tables (request_number tables (connection_with tables pid) client) (nth tables.requests (request_number tables (connection_with tables pid) client)) ≡ Some grant) =
      cond_gives (bytes_eq c.cookie cookie) _ grant e in
      request_stands (connection_with tables pid) c here (first_passes (has_pid pid) tables.connections c here) both.0
      (nth tables.requests (request_number tables (connection_with tables pid) client)) refl both.1

pub grants_stand : GrantsStand
unfolding granted
grants_stand settings moment tables pid client cookie grant e =
    connection_stands settings moment tables pid client cookie grant (nth tables.connections (connection_with tables pid)) refl e
