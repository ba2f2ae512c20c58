-- A PAC that is signed (MS-PAC, sections 2.8.1 to 2.8.3).
use Rattle.std.specs.Prelude.{ℕ, List, replicate, Option, None, Some}
use Rattle.krb_names.specs.declared.key.Key.{Key}
use Rattle.pac_buffers.specs.Buffers.{Buffer, pac, with_sum}
use Rattle.pac_sign.specs.Sums.{sum_of}

-- the values of the server and of the KDC signature zero
abbrev pub cleared : List Buffer → List Buffer
cleared bs = with_sum 7 (replicate 12 0) (with_sum 6 (replicate 12 0) bs)

-- the server signature covers the PAC with these values zero
abbrev pub server_sum : Key → List Buffer → List ℕ
server_sum server bs = sum_of server (pac (cleared bs))

-- the ticket signature covers the ticket
abbrev pub with_ticket : Key → Option (List ℕ) → List Buffer → List Buffer
with_ticket realm None bs = bs
with_ticket realm (Some part) bs = with_sum 16 (sum_of realm part) bs

-- the KDC signature covers the server signature
abbrev pub with_server : Key → Key → List Buffer → List Buffer
with_server server realm bs = with_sum 7 (sum_of realm (server_sum server bs)) (with_sum 6 (server_sum server bs) bs)

-- the ticket signature first, since the server signature covers it
unfoldable pub signed : Key → Key → Option (List ℕ) → List Buffer → List Buffer
signed server realm part bs = with_server server realm (with_ticket realm part bs)
