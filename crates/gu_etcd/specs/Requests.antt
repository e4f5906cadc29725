-- What is sent to etcd: the texts of requests to its JSON gateway. Keys and values are in base64.
use Rattle.std.specs.Prelude.{ℕ, List, ◌++◌, codes, decimal}
use Rattle.base64.specs.Engines.{standard}
use Rattle.base64.specs.GeneralPurpose.{encode_of}
use Rattle.gu_etcd.specs.Keys.{batch_key, end_key, leader_key}

-- bytes in base64
abbrev pub coded : List ℕ → List ℕ
coded bytes = encode_of standard bytes

-- a condition: a key is free
abbrev pub free_text : List ℕ → List ℕ
free_text key = codes "{\"target\":\"VERSION\",\"key\":\"" ++ (coded key ++ codes "\",\"version\":\"0\"}")

-- a condition: the desk that leads has this name
abbrev pub leader_text : List ℕ → List ℕ → List ℕ
leader_text leads leader = codes "{\"target\":\"VALUE\",\"key\":\"" ++ (coded leads ++ (codes "\",\"value\":\"" ++ (coded leader ++ codes "\"}")))

-- two conditions: a key is free, and the desk that leads has this name
abbrev pub conditions_text : List ℕ → List ℕ → List ℕ → List ℕ
conditions_text key leads leader = free_text key ++ (codes "," ++ leader_text leads leader)

-- an operation: a key gets a value
abbrev pub value_text : List ℕ → List ℕ → List ℕ
value_text key value = codes "{\"request_put\":{\"key\":\"" ++ (coded key ++ (codes "\",\"value\":\"" ++ (coded value ++ codes "\"}}")))

-- an operation: a key gets a value as long as a lease goes on
abbrev pub leased_text : List ℕ → List ℕ → ℕ → List ℕ
leased_text key value lease =
    codes "{\"request_put\":{\"key\":\"" ++ (coded key ++ (codes "\",\"value\":\"" ++ (coded value ++ (codes "\",\"lease\":\"" ++ (decimal lease ++ codes "\"}}")))))

-- an operation: what is at a key
abbrev pub question_text : List ℕ → List ℕ
question_text key = codes "{\"request_range\":{\"key\":\"" ++ (coded key ++ codes "\"}}")

-- a transaction: its conditions, what is done if they hold, and what if they don't
abbrev pub transaction_text : List ℕ → List ℕ → List ℕ → List ℕ
transaction_text conditions put question =
    codes "{\"compare\":[" ++ (conditions ++ (codes "],\"success\":[" ++ (put ++ (codes "],\"failure\":[" ++ (question ++ codes "]}")))))

-- Put an entry at a number. The number is to be free, and this desk is to lead; if not, the answer is what is at the number.
abbrev pub put_text : List ℕ → List ℕ → ℕ → List ℕ → List ℕ
put_text name leader number entry =
    let key = batch_key name number in
    transaction_text (conditions_text key (leader_key name) leader) (value_text key entry) (question_text key)

-- The entries from a number on, in order, as many as a limit at most.
abbrev pub range_text : List ℕ → ℕ → ℕ → List ℕ
range_text name from limit =
    codes "{\"key\":\"" ++ (coded (batch_key name from) ++ (codes "\",\"range_end\":\"" ++ (coded (end_key name)
    ++ (codes "\",\"limit\":\"" ++ (decimal limit ++ codes "\"}")))))

-- A lease of some seconds.
abbrev pub grant_text : ℕ → List ℕ
grant_text seconds = codes "{\"TTL\":\"" ++ (decimal seconds ++ codes "\",\"ID\":\"0\"}")

-- A lease is to go on.
abbrev pub keep_alive_text : ℕ → List ℕ
keep_alive_text lease = codes "{\"ID\":\"" ++ (decimal lease ++ codes "\"}")

-- This desk is to lead, as long as its lease goes on. No desk is to lead; if one does, the answer is its name.
abbrev pub lead_text : List ℕ → List ℕ → ℕ → List ℕ
lead_text name leader lease =
    let key = leader_key name in
    transaction_text (free_text key) (leased_text key leader lease) (question_text key)

-- This desk is to lead, as long as its lease goes on, in place of the desk of another name. That one is still to lead, and the number is to be free;
-- if not, the answer is who leads.
abbrev pub claim_text : List ℕ → List ℕ → ℕ → List ℕ → ℕ → List ℕ
claim_text name leader lease former number =
    let key = leader_key name in
    transaction_text (conditions_text (batch_key name number) key former) (leased_text key leader lease) (question_text key)

-- Does this desk lead? In either case the answer is who leads too.
abbrev pub leads_text : List ℕ → List ℕ → List ℕ
leads_text name leader =
    let key = leader_key name in
    transaction_text (leader_text key leader) (question_text key) (question_text key)
