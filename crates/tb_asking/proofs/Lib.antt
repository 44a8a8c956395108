mod OwnKeys
