use Rattle.std.proofs.Common.{◌≡◌, ◌≤◌, ℕ, List, [], length, map, Some, None, ℤ, to_z, of_z, sym, subst, ap, ◌∙◌, arith}
use Rattle.std.specs.Prelude.{nat_le}
use Rattle.std.specs.Int.{w32}
use Rattle.std.specs.List.{list_all}
use Rattle.std.proofs.lemmas.Int.{to_z-of_z}
use Rattle.farm_site.proofs.Following.{fits_small}
use Rattle.std.proofs.lemmas.Bool.{le-leb}
use Rattle.cc_book.specs.declared.account.Account.{Account}
use Rattle.cc_rating.specs.declared.tariff.Tariff.{Tariff}
use Rattle.cc_rating.specs.Tariffs.{fault_of}
use Rattle.dia_grammar.specs.declared.profile.Tolerance.{Tolerance}
use Rattle.farm_base.specs.CheckedSite.{is_free_code, is_sound_account, is_sound_link, is_sound_name, is_sound_route, same_account, same_name, same_number, same_pair, same_route, same_tolerance, size_of}
use Rattle.farm_base.specs.Lists.{are_distinct}
use Rattle.farm_base.specs.declared.site.Link.{Link}
use Rattle.farm_base.specs.declared.site.Node.{Node}
use Rattle.farm_base.specs.declared.site.Route.{Route}
use Rattle.farm_base.specs.declared.site.Site.{Site}
use Rattle.toml.specs.Data.{Members, integer}
use Rattle.toml.specs.View.{table_view}
use Rattle.farm_site.specs.declared.key.Key.TheVariants as keys
use Rattle.farm_site.specs.Faults.{IsFaultIn, IsLinkFault, IsRouteFault, IsTableFault, of_accounts, of_links, of_nodes, of_routes, of_tariffs}
use Rattle.farm_site.specs.Graph.{site_over}
use Rattle.farm_site.specs.Growing.{AreSound}
use Rattle.farm_site.specs.Spelling.{SpellsAccount, SpellsLink, SpellsNode, SpellsRoute, SpellsTable, SpellsTariff, has_32_bits, is_typed_route, is_typed_tariff, numbers, texts, tolerance_word}
use Rattle.farm_site.proofs.Checking.{links_of_site, routes_of_site}
use Rattle.farm_site.proofs.Pushing.{and_right}
use Rattle.farm_site.proofs.Refusing.{handed_on}
use Rattle.farm_site.proofs.Spelled.{spelled_between}
use Rattle.farm_site.proofs.site_in.Goals as goal

pub returns-clause-checked : goal.returns-clause-checked
returns-clause-checked c =
    let site : Site = record {
      realm = c.in_ok-realm.realm;
      validity = c.in_ok-validity.validity;
      limit = c.in_ok-limit.limit;
      workers = c.in_ok-workers.workers;
      queue = c.in_ok-queue.queue;
      vendors = c.from_vec.result;
      known = c.from_vec-2.result;
      tolerate = c.from_vec-3.result;
      advertise = c.from_vec-4.result;
      currency = c.in_ok-currency.currency;
      exponent = c.in_ok-exponent.exponent;
      watchdog = c.in_ok-watchdog.watchdog;
      nodes = c.from_vec-5.result;
      links = c.from_vec-6.result;
      routes = c.from_vec-7.result;
      tariffs = c.from_vec-8.result;
      accounts = c.from_vec-9.result;
    } in
    let nodes : AreSound is_sound_name same_name site.nodes = subst (λ (xs : List Node). AreSound is_sound_name same_name xs) (sym c.from_vec-5.ensures) c.in_ok-nodes.ensures.sound in
    let links : AreSound (is_sound_link (site_over site.nodes [])) same_pair site.links =
    links_of_site site c.in_ok-nodes.nodes.items c.deref.result.now c.in_ok-links.links.items c.from_vec-5.ensures c.from_vec-6.ensures c.deref.ensures.value c.in_ok-links.ensures.sound in
    let routes : AreSound (is_sound_route (site_over site.nodes site.links)) same_route site.routes =
    routes_of_site site c.in_ok-nodes.nodes.items c.deref-2.result.now c.in_ok-links.links.items c.deref-3.result.now c.in_ok-routes.routes.items c.from_vec-5.ensures c.from_vec-6.ensures c.from_vec-7.ensures c.deref-2.ensures.value c.deref-3.ensures.value c.in_ok-routes.ensures.sound in
    let tariffs : fault_of site.tariffs ≡ None = ap (λ (xs : List Tariff). fault_of xs) c.from_vec-8.ensures ∙ c.in_ok-tariffs.ensures.sound in
    let accounts : AreSound is_sound_account same_account site.accounts = subst (λ (xs : List Account). AreSound is_sound_account same_account xs) (sym c.from_vec-9.ensures) c.in_ok-accounts.ensures.sound in
    let known_count : length site.known ≤ 256 = subst (λ (xs : List ℕ). length xs ≤ 256) (sym c.from_vec-2.ensures) (omega (arith, c.in_ok-known.ensures.count, c.in_ok-known.known.ok.0)) in
    let advertise_count : length site.advertise ≤ 16 = subst (λ (xs : List ℕ). length xs ≤ 16) (sym c.from_vec-4.ensures) (omega (arith, c.in_ok-advertise.ensures.count, c.in_ok-advertise.advertise.ok.0)) in
    let node_count : length site.nodes ≤ 64 = subst (λ (xs : List Node). length xs ≤ 64) (sym c.from_vec-5.ensures) (omega (arith, c.in_ok-nodes.ensures.count, c.in_ok-nodes.nodes.ok.0)) in
    let link_count : length site.links ≤ 256 = subst (λ (xs : List Link). length xs ≤ 256) (sym c.from_vec-6.ensures) (omega (arith, c.in_ok-links.ensures.count, c.in_ok-links.links.ok.0)) in
    let route_count : length site.routes ≤ 256 = subst (λ (xs : List Route). length xs ≤ 256) (sym c.from_vec-7.ensures) (omega (arith, c.in_ok-routes.ensures.count, c.in_ok-routes.routes.ok.0)) in
    let tariff_count : length site.tariffs ≤ 1024 = subst (λ (xs : List Tariff). length xs ≤ 1024) (sym c.from_vec-8.ensures) (omega (arith, c.in_ok-tariffs.ensures.count, c.in_ok-tariffs.tariffs.ok.0)) in
    let account_count : length site.accounts ≤ 65536 = subst (λ (xs : List Account). length xs ≤ 65536) (sym c.from_vec-9.ensures) (omega (arith, c.in_ok-accounts.ensures.count, c.in_ok-accounts.accounts.ok.0)) in
    record {
      validity = c.in_ok-validity.ensures.range;
      limit = c.in_ok-limit.ensures.range;
      workers = c.in_ok-workers.ensures.range;
      queue = c.in_ok-queue.ensures.range;
      known_count = le-leb (length site.known) 256 known_count;
      free_codes = ap (λ (ns : List ℕ). list_all is_free_code ns) c.from_vec-2.ensures ∙ c.in_ok-known.ensures.free;
      known = ap (λ (ns : List ℕ). are_distinct same_number ns) c.from_vec-2.ensures ∙ c.in_ok-known.ensures.once;
      tolerate = ap (λ (ts : List Tolerance). are_distinct same_tolerance ts) c.from_vec-3.ensures ∙ c.in_ok-tolerate.ensures.once;
      advertise_count = le-leb (length site.advertise) 16 advertise_count;
      advertise = ap (λ (ns : List ℕ). are_distinct same_number ns) c.from_vec-4.ensures ∙ c.in_ok-advertise.ensures.once;
      currency = and_right (nat_le 0 c.in_ok-currency.currency) (nat_le c.in_ok-currency.currency 999) c.in_ok-currency.ensures.range;
      exponent = ap (λ (z : ℤ). nat_le (size_of z) 9) (to_z-of_z w32 c.in_ok-exponent.exponent (fits_small c.in_ok-exponent.exponent c.in_ok-exponent.ensures.size)) ∙ c.in_ok-exponent.ensures.size;
      watchdog = c.in_ok-watchdog.ensures.range;
      nodes = le-leb (length site.nodes) 64 node_count;
      sound_names = nodes.sound;
      names = nodes.distinct;
      links = le-leb (length site.links) 256 link_count;
      sound_links = links.sound;
      pairs = links.distinct;
      routes = le-leb (length site.routes) 256 route_count;
      sound_routes = routes.sound;
      destinations = routes.distinct;
      tariff_count = le-leb (length site.tariffs) 1024 tariff_count;
      tariffs = tariffs;
      account_count = le-leb (length site.accounts) 65536 account_count;
      sound_accounts = accounts.sound;
      identifiers = accounts.distinct;
    }

pub returns-clause-spelled : goal.returns-clause-spelled
returns-clause-spelled c =
    let file : Members = table_view c.args.file.table.now in
    let small : to_z w32 (of_z w32 c.in_ok-exponent.exponent) ≡ c.in_ok-exponent.exponent = to_z-of_z w32 c.in_ok-exponent.exponent (fits_small c.in_ok-exponent.exponent c.in_ok-exponent.ensures.size) in
    record {
      realm = c.in_ok-realm.ensures.value;
      validity = c.in_ok-validity.ensures.value;
      limit = c.in_ok-limit.ensures.value;
      workers = c.in_ok-workers.ensures.value;
      queue = c.in_ok-queue.ensures.value;
      vendors = c.in_ok-vendors.ensures.value ∙ ap numbers (sym c.from_vec.ensures);
      known = c.in_ok-known.ensures.spelled ∙ ap numbers (sym c.from_vec-2.ensures);
      tolerate = c.in_ok-tolerate.ensures.spelled ∙ ap (λ (ts : List Tolerance). texts (map tolerance_word ts)) (sym c.from_vec-3.ensures);
      advertise = c.in_ok-advertise.ensures.spelled ∙ ap numbers (sym c.from_vec-4.ensures);
      currency = c.in_ok-currency.ensures.value;
      exponent = c.in_ok-exponent.ensures.value ∙ ap (λ (z : ℤ). Some (integer z)) (sym small);
      watchdog = c.in_ok-watchdog.ensures.value;
      nodes = subst (λ (xs : List Node). SpellsTable SpellsNode keys.Node file xs) (sym c.from_vec-5.ensures) c.in_ok-nodes.ensures.spelled;
      links = spelled_between SpellsLink keys.Link file c.from_vec-5.result c.in_ok-nodes.nodes.items c.deref.result.now c.from_vec-6.result c.in_ok-links.links.items c.from_vec-5.ensures c.from_vec-6.ensures c.deref.ensures.value c.in_ok-links.ensures.spelled;
      routes = spelled_between SpellsRoute keys.Route file c.from_vec-5.result c.in_ok-nodes.nodes.items c.deref-2.result.now c.from_vec-7.result c.in_ok-routes.routes.items c.from_vec-5.ensures c.from_vec-7.ensures c.deref-2.ensures.value c.in_ok-routes.ensures.spelled;
      tariffs = subst (λ (xs : List Tariff). SpellsTable SpellsTariff keys.Tariff file xs) (sym c.from_vec-8.ensures) c.in_ok-tariffs.ensures.spelled;
      accounts = subst (λ (xs : List Account). SpellsTable SpellsAccount keys.Account file xs) (sym c.from_vec-9.ensures) c.in_ok-accounts.ensures.spelled;
    }

pub returns-clause-typed : goal.returns-clause-typed
returns-clause-typed c = record {
  realm = c.in_ok-realm.ensures.sound;
  vendors = ap (λ (ns : List ℕ). list_all has_32_bits ns) c.from_vec.ensures ∙ c.in_ok-vendors.ensures.small;
  advertise = ap (λ (ns : List ℕ). list_all has_32_bits ns) c.from_vec-4.ensures ∙ c.in_ok-advertise.ensures.small;
  routes = ap (λ (rs : List Route). list_all is_typed_route rs) c.from_vec-7.ensures ∙ c.in_ok-routes.ensures.typed;
  tariffs = ap (λ (ts : List Tariff). list_all is_typed_tariff ts) c.from_vec-8.ensures ∙ c.in_ok-tariffs.ensures.typed;
}

pub returns-in_err-nodes-clause-fault : goal.returns-in_err-nodes-clause-fault
returns-in_err-nodes-clause-fault c =
    let file : Members = table_view c.args.file.table.now in
    handed_on (IsFaultIn file) c.from_residual-in_err-nodes.result c.in_err-nodes.field-0.0 c.from_residual-in_err-nodes.ensures.1 (of_nodes c.in_err-nodes.ensures.fault)

pub returns-in_err-links-clause-fault : goal.returns-in_err-links-clause-fault
returns-in_err-links-clause-fault c =
    let file : Members = table_view c.args.file.table.now in
    let nodes : List Node = c.in_ok-nodes.nodes.items in
    let few : length c.deref.result.now ≤ 64 = subst (λ (xs : List Node). length xs ≤ 64) (sym c.deref.ensures.value) (omega (arith, c.in_ok-nodes.ensures.count, c.in_ok-nodes.nodes.ok.0)) in
    let told : IsTableFault (SpellsLink nodes) (IsLinkFault nodes) keys.Link file c.in_err-links.field-0.0 =
    subst (λ (ns : List Node). IsTableFault (SpellsLink ns) (IsLinkFault ns) keys.Link file c.in_err-links.field-0.0) c.deref.ensures.value (c.in_err-links.ensures.fault few) in
    handed_on (IsFaultIn file) c.from_residual-in_err-links.result c.in_err-links.field-0.0 c.from_residual-in_err-links.ensures.1 (of_links c.in_ok-nodes.nodes.items c.in_ok-nodes.ensures.spelled told)

pub returns-in_err-routes-clause-fault : goal.returns-in_err-routes-clause-fault
returns-in_err-routes-clause-fault c =
    let file : Members = table_view c.args.file.table.now in
    let nodes : List Node = c.in_ok-nodes.nodes.items in
    let links : List Link = c.in_ok-links.links.items in
    let few : length c.deref-2.result.now ≤ 64 = subst (λ (xs : List Node). length xs ≤ 64) (sym c.deref-2.ensures.value) (omega (arith, c.in_ok-nodes.ensures.count, c.in_ok-nodes.nodes.ok.0)) in
    let are_links : SpellsTable (SpellsLink nodes) keys.Link file links =
    subst (λ (ns : List Node). SpellsTable (SpellsLink ns) keys.Link file links) c.deref.ensures.value c.in_ok-links.ensures.spelled in
    let told : IsTableFault (SpellsRoute nodes) (IsRouteFault nodes links) keys.Route file c.in_err-routes.field-0.0 =
    subst (λ (ls : List Link). IsTableFault (SpellsRoute nodes) (IsRouteFault nodes ls) keys.Route file c.in_err-routes.field-0.0) c.deref-3.ensures.value
    (subst (λ (ns : List Node). IsTableFault (SpellsRoute ns) (IsRouteFault ns c.deref-3.result.now) keys.Route file c.in_err-routes.field-0.0) c.deref-2.ensures.value (c.in_err-routes.ensures.fault few)) in
    handed_on (IsFaultIn file) c.from_residual-in_err-routes.result c.in_err-routes.field-0.0 c.from_residual-in_err-routes.ensures.1 (of_routes nodes links c.in_ok-nodes.ensures.spelled are_links told)

pub returns-in_err-tariffs-clause-fault : goal.returns-in_err-tariffs-clause-fault
returns-in_err-tariffs-clause-fault c =
    let file : Members = table_view c.args.file.table.now in
    handed_on (IsFaultIn file) c.from_residual-in_err-tariffs.result c.in_err-tariffs.field-0.0 c.from_residual-in_err-tariffs.ensures.1 (of_tariffs c.in_err-tariffs.ensures.fault)

pub returns-in_err-accounts-clause-fault : goal.returns-in_err-accounts-clause-fault
returns-in_err-accounts-clause-fault c =
    let file : Members = table_view c.args.file.table.now in
    handed_on (IsFaultIn file) c.from_residual-in_err-accounts.result c.in_err-accounts.field-0.0 c.from_residual-in_err-accounts.ensures.1 (of_accounts c.in_err-accounts.ensures.fault)
