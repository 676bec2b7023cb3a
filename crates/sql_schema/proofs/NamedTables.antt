-- Each table is in the schema of each schema version that has it, and so is the index of its key.
use Rattle.std.proofs.Common.{inl, inr, refl}
use Rattle.sqlite_rules.specs.Lists.{Has}
use Rattle.sql_schema.specs.declared.edition.Edition.{Edition}
use Rattle.sql_schema.specs.Schema.{accounts_table, bank_schema, bank_table, branches_table, certifiers_index, certifiers_table, entries_index, entries_table, lines_index, lines_table, members_index, members_table, proofs_index, proofs_table, relations_index, relations_table, releases_index, releases_table, schema_of, sets_table, slip_counts_table, slips_index, slips_table, tellers_table, triples_index_of, triples_table_of, users_table}

-- ---- the tables

pub bank_there : (e : Edition) → Has (schema_of e).tables bank_table
bank_there e = inl refl

pub users_there : (e : Edition) → Has (schema_of e).tables users_table
users_there e = inr (inl refl)

pub sets_there : (e : Edition) → Has (schema_of e).tables sets_table
sets_there e = inr (inr (inl refl))

pub members_there : (e : Edition) → Has (schema_of e).tables members_table
members_there e = inr (inr (inr (inl refl)))

pub relations_there : (e : Edition) → Has (schema_of e).tables relations_table
relations_there e = inr (inr (inr (inr (inl refl))))

pub triples_there : (e : Edition) → Has (schema_of e).tables (triples_table_of e)
triples_there e = inr (inr (inr (inr (inr (inl refl)))))

pub certifiers_there : (e : Edition) → Has (schema_of e).tables certifiers_table
certifiers_there e = inr (inr (inr (inr (inr (inr (inl refl))))))

pub branches_there : (e : Edition) → Has (schema_of e).tables branches_table
branches_there e = inr (inr (inr (inr (inr (inr (inr (inl refl)))))))

pub tellers_there : (e : Edition) → Has (schema_of e).tables tellers_table
tellers_there e = inr (inr (inr (inr (inr (inr (inr (inr (inl refl))))))))

pub accounts_there : (e : Edition) → Has (schema_of e).tables accounts_table
accounts_there e = inr (inr (inr (inr (inr (inr (inr (inr (inr (inl refl)))))))))

pub entries_there : (e : Edition) → Has (schema_of e).tables entries_table
entries_there e = inr (inr (inr (inr (inr (inr (inr (inr (inr (inr (inl refl))))))))))

pub lines_there : (e : Edition) → Has (schema_of e).tables lines_table
lines_there e = inr (inr (inr (inr (inr (inr (inr (inr (inr (inr (inr (inl refl)))))))))))

pub proofs_there : (e : Edition) → Has (schema_of e).tables proofs_table
proofs_there e = inr (inr (inr (inr (inr (inr (inr (inr (inr (inr (inr (inr (inl refl))))))))))))

pub releases_there : (e : Edition) → Has (schema_of e).tables releases_table
releases_there e = inr (inr (inr (inr (inr (inr (inr (inr (inr (inr (inr (inr (inr (inl refl)))))))))))))

pub slips_there : Has bank_schema.tables slips_table
slips_there = inr (inr (inr (inr (inr (inr (inr (inr (inr (inr (inr (inr (inr (inr (inl refl))))))))))))))

pub slip_counts_there : Has bank_schema.tables slip_counts_table
slip_counts_there = inr (inr (inr (inr (inr (inr (inr (inr (inr (inr (inr (inr (inr (inr (inr (inl refl)))))))))))))))

-- ---- the indexes

pub members_index_there : (e : Edition) → Has (schema_of e).indexes members_index
members_index_there e = inl refl

pub relations_index_there : (e : Edition) → Has (schema_of e).indexes relations_index
relations_index_there e = inr (inl refl)

pub triples_index_there : (e : Edition) → Has (schema_of e).indexes (triples_index_of e)
triples_index_there e = inr (inr (inl refl))

pub certifiers_index_there : (e : Edition) → Has (schema_of e).indexes certifiers_index
certifiers_index_there e = inr (inr (inr (inl refl)))

pub entries_index_there : (e : Edition) → Has (schema_of e).indexes entries_index
entries_index_there e = inr (inr (inr (inr (inl refl))))

pub lines_index_there : (e : Edition) → Has (schema_of e).indexes lines_index
lines_index_there e = inr (inr (inr (inr (inr (inr (inl refl))))))

pub proofs_index_there : (e : Edition) → Has (schema_of e).indexes proofs_index
proofs_index_there e = inr (inr (inr (inr (inr (inr (inr (inl refl)))))))

pub releases_index_there : (e : Edition) → Has (schema_of e).indexes releases_index
releases_index_there e = inr (inr (inr (inr (inr (inr (inr (inr (inl refl))))))))

pub slips_index_there : Has bank_schema.indexes slips_index
slips_index_there = inr (inr (inr (inr (inr (inr (inr (inr (inr (inr (inr (inl refl)))))))))))
